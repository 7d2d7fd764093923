-- What a least path is asked by, and what shows that it is one: words that pricing, trees and guide share.
pub use Rattle.std.specs.Arc.{arc_value}
pub use Rattle.arc_restrict.specs.Rows.{forbids}
pub use Rattle.path_pricing.specs.Priced.{ArePrices, IsPriced}
pub use Rattle.path_pricing.specs.Faults.{priced_fault}
