-- Prices and rates of a search, as those who price demands want them.
use Rattle.std.proofs.Common.{ℕ, List, arith}
use Rattle.plan_base.specs.declared.parts.Parts.{Parts}
use Rattle.proof_tree.specs.declared.cuts.Cut.{Cut}
use Rattle.path_pricing.specs.Priced.{ArePrices}
use Rattle.cut_values.specs.Numbers.{AreNumbers}

-- numbers that are as they have to be have a price for each place, and none is above the limit
pub numbers_priced : (p : Parts) (cuts : List Cut) (numbers : List ℕ) → AreNumbers p cuts numbers → ArePrices p numbers
numbers_priced p cuts numbers h = record { count = omega (arith, h.count); within_limit = h.lawful.prices_within }
