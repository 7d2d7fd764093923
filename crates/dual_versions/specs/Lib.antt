pub mod Tables
pub mod Boards
pub mod Rows
pub mod Views
