pub mod NearestLaws
pub mod OfferLaws
pub mod SettleLaws
pub mod WaitLaws
pub mod WayLaws
pub mod FoundLaws
pub mod TreeLaws
