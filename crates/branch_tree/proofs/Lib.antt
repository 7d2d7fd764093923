pub mod DealingSteps
pub mod DealingLaws
pub mod RecordLaws
pub mod LimitLaws
pub mod BranchLaws
pub mod ShapeLaws
pub mod SplitLaws
pub mod ValidLaws
