mod ViewLists
mod Growing
mod Keeping
mod Drawing
mod Looking
mod Raising
mod Serving
mod Splitting
mod Making
mod Joining
mod Ending
pub mod Calling
pub mod Counting
