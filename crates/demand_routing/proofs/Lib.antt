pub mod Rises
pub mod HoldingLaws
pub mod ReroutingLaws
pub mod TrafficLaws
pub mod RoutingLaws
pub mod AddedCosts
pub mod KeptLaws
pub mod WeighedLaws
