pub mod Within
pub mod Rooms
pub mod Labels
