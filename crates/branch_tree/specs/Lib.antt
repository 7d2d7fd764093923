pub mod Dealing
pub mod Branches
pub mod Records
pub mod Waiting
