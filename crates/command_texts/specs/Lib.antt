pub mod Texts
pub mod Statuses
pub mod Refusals
pub mod Answers
pub mod Stops
pub mod Shelf
pub mod OneAnswer
