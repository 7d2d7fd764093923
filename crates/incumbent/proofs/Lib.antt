pub mod GroupLaws
pub mod DesignLaws
pub mod ScoutLaws
