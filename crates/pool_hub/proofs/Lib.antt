mod Counts
mod Done
