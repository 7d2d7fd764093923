pub mod Farthest
pub mod Growth
pub mod Orders
pub mod Singles
pub mod Theorem
