pub mod Kept
pub mod Labels
pub mod OnlyPaths
pub mod Sources
