pub mod Begins
pub mod Answering
mod StopLaws
pub mod OneRefusal
mod OneReport
mod OneCheck
