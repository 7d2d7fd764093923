pub mod PathPrices
pub mod RowLaws
pub mod RowsAdded
pub mod PartingLaws
