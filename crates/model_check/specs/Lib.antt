pub mod Profile
pub mod Reading
pub mod Refusals
pub mod Telling
