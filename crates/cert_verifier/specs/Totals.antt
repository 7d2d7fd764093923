-- Totals at given prices, in thousandths of a cost grain.
use Rattle.std.specs.Prelude.{ℕ, ◌≡◌, ◌*◌, List, slice_index}
use Rattle.plan_base.specs.declared.parts.Parts.{Parts}
use Rattle.plan_base.specs.Sums.{sum_below}
use Rattle.plan_base.specs.Places.{places}
use Rattle.link_steps.specs.declared.range.LoadRange.{LoadRange}
use Rattle.arc_restrict.specs.Restrictions.{Forbidden}
use Rattle.proof_tree.specs.Bounds.{AreLeastPrices, price_total}
use Rattle.proof_tree.specs.Evidence.{room_at}

-- the sum of loads times the demands' least prices
pub record IsPriceTotal (p : Parts) (r : Forbidden) (prices : List ℕ) (total : ℕ) : Type 0 where
  pub least_prices : ℕ → ℕ
  pub are_least : AreLeastPrices p r prices least_prices
  pub is_total : total ≡ price_total p least_prices

-- the sum over places of the price times what the place carries at most where no module is added
abbrev pub room_price : Parts → List LoadRange → List ℕ → ℕ
room_price p ranges prices = sum_below (λ q. slice_index prices q * room_at p ranges q) (places p)
