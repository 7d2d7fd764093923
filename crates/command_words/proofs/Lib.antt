pub mod Counts
mod Numbers
