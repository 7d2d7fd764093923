pub mod Items
pub mod Finding
pub mod Ending
pub mod Programs
