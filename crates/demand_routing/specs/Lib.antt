pub mod Holding
pub mod Kept
pub mod Routings
pub mod Traffic
pub mod Weighed
