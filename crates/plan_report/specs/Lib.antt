pub mod Lines
pub mod Verdicts
pub mod Reports
pub mod Named
