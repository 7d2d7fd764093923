pub mod Rounds
pub mod Records
pub mod Grounds
pub mod Slots
pub mod Ranks
pub mod SearchStates
