pub mod ThreeNames
mod Verdicts
