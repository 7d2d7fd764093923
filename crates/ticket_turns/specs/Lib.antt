pub mod Histories
pub mod Rules
pub mod Steps
pub mod Passes
