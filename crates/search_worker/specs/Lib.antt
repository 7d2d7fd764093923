pub mod Searches
pub mod Offers
pub mod Briefs
