pub mod Advances
pub mod Entries
pub mod Guides
pub mod LeastPaths
pub mod Lending
pub mod Limits
