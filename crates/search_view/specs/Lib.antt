pub mod Views
pub mod Examining
pub mod Work
pub mod Valuing
pub mod OpenBounds
