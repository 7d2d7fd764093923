pub mod Ends
pub mod Exits
pub mod Found
pub mod Programs
pub mod Runs
