pub mod PlanParts
pub mod LeafLows
