pub mod Decimal
pub mod Scanning
pub mod Canonical
pub mod Kept
