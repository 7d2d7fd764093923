pub mod Counts
mod Levels
mod Tables
mod Walks
