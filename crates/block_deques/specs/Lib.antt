pub mod Decks
pub mod Wholes
pub mod Hands
pub mod Passes
pub mod Reaches
pub mod Making
pub mod Gathers
