pub mod WrittenLaws
pub mod OfferLaws
pub mod RoundLaws
pub mod WayLaws
pub mod FoundLaws
