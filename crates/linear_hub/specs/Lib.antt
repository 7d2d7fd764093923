pub mod Calls
pub mod Histories
pub mod Seats
pub mod Works
pub mod Laws
