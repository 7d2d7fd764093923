pub mod Choosing
pub mod Closing
pub mod Growing
pub mod Merging
pub mod Starts
pub mod Waiting
pub mod Walks
