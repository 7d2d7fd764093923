pub mod Gaps
pub mod SmallSums
pub mod LeastLengths
