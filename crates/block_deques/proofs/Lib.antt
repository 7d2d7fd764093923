pub mod Places
pub mod Going
mod Moves
mod Makes
mod Steals
mod Gains
mod Drains
mod Totals
mod Sorts
