-- Numbers whose prices move as far as their rates permit.
use Rattle.std.proofs.Common.{ℕ, ◌+◌, ◌-◌, ◌*◌, ◌/◌, ◌<◌, ◌≤◌, min, max, Bool, true, false, List, slice_index, set, arith}
use Rattle.std.specs.Prelude.{nat_lt, if◌then◌else◌}
use Rattle.plan_base.specs.declared.parts.Parts.{Parts}
use Rattle.plan_base.specs.Places.{places}
use Rattle.proof_tree.specs.declared.cuts.Cut.{Cut}
use Rattle.cut_values.specs.Numbers.{AreNumbers, least_price_at, most_price_at, IsPriceWithin}
use Rattle.cut_values.proofs.MovedPrices.{moved-numbers, put-moved}
use Rattle.master_step.specs.Trials.{apart, moved}

-- a price that is moved stays within its bounds
pub moved-within : (p : Parts) (cuts : List Cut) (numbers : List ℕ) (q greatest divisor columns value : ℕ) → IsPriceWithin p cuts numbers q (slice_index numbers q)
    → IsPriceWithin p cuts numbers q (moved (least_price_at p cuts numbers q) (most_price_at p cuts numbers q) greatest divisor columns value (slice_index numbers q))
moved-within p cuts numbers q greatest divisor columns value own =
    let bounds = by (nat_lt value columns) (least_price_at p cuts numbers q) (most_price_at p cuts numbers q) (slice_index numbers q) (apart columns value * greatest / divisor) own.enough own.few in
    record { enough = bounds.0; few = bounds.1 }
  where
    by : (b : Bool) (low high price step : ℕ) → low ≤ price → price ≤ high
        → (low ≤ (if b then min high (price + step) else max low (price - step))) × ((if b then min high (price + step) else max low (price - step)) ≤ high)
    by true low high price step enough few = (omega (arith, enough, few), omega (arith, enough, few))
    by false low high price step enough few = (omega (arith, enough, few), omega (arith, enough, few))

-- one price more is put
pub numbers_put : (p : Parts) (cuts : List Cut) (numbers : List ℕ) (q price : ℕ) → AreNumbers p cuts numbers → q < places p → IsPriceWithin p cuts numbers q price → AreNumbers p cuts (set numbers q price)
numbers_put p cuts numbers q price are below within = moved-numbers p cuts numbers (set numbers q price) are (put-moved p cuts numbers q price are below within)
