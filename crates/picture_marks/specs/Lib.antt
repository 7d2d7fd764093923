pub mod Escapes
pub mod Marks
