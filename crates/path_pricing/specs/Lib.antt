pub mod Priced
pub mod Faults
pub mod Weights
pub mod Walks
