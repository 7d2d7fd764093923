pub mod KeptRounds
pub mod Completing
pub mod FoundPaths
pub mod SharedLimits
pub mod Grounds
pub mod FreeSlots
pub mod GatheredPaths
