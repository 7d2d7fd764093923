pub mod Columns
pub mod Restricted
pub mod Trials
pub mod Outcomes
pub mod Choosing
pub mod Climbing
pub mod Ascents
