pub mod Cutting
pub mod NumberWords
pub mod Digits
