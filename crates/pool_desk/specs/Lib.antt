pub mod Events
pub mod Shown
pub mod Standings
