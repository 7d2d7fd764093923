pub mod Groups
pub mod Rounds
pub mod Searches
