pub mod Measures
pub mod Surcharges
pub mod Worths
pub mod Worked
