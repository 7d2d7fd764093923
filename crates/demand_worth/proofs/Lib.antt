pub mod Divisors
pub mod Orders
pub mod Best
pub mod Sets
