pub mod Searches
pub mod Budgets
pub mod Plans
pub mod Samples
pub mod Runs
pub mod Supports
pub mod Found
