pub mod Counted
pub mod Lists
pub mod PlaceLoads
mod Steps
