pub mod Numbers
pub mod LinkValues
pub mod Crossings
