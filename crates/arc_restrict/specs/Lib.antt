pub mod Restrictions
pub mod Rows
pub mod Prices
pub mod Partings
