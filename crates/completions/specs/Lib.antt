pub mod Completions
pub mod Links
