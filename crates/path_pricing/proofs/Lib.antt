mod FaultSteps
mod PlaceLaws
mod WalkLaws
mod WalkEnds
mod ShownLaws
pub mod FaultLaws
pub mod WeightLaws
pub mod FoundLaws
mod PriceSums
mod ArcPrices
