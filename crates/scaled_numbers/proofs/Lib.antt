pub mod Grammar
pub mod Powers
pub mod Keeping
pub mod Reading
pub mod Deciding
pub mod Fractions
pub mod DigitLists
pub mod CanonicalTexts
