mod Makings
mod Seats
