pub mod NumberPrices
mod PathLists
