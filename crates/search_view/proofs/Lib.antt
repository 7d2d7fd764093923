pub mod Answering
pub mod Offers
mod Examining
mod FarLaws
mod Dividings
pub mod TaskLaws
pub mod Reading
pub mod Leaves
mod Fitting
mod Routes
mod Publishing
mod Refusing
pub mod Valuing
mod Gatherings
mod Claiming
