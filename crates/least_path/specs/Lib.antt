pub mod Paths
pub mod Labels
pub mod Waits
pub mod Trees
