pub mod MarkLaws
mod Ways
mod Offers
mod Rounding
mod LeastPrices
mod StepsBack
mod LeftOut
mod SourcePrices
