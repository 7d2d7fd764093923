pub mod UsedRates
pub mod CrossingRows
pub mod NoRates
pub mod StartBounds
pub mod MovedPrices
