pub mod Rounds
pub mod RoundBounds
pub mod Places
