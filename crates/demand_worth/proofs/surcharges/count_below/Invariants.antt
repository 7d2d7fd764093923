use Rattle.std.proofs.Common.{ℕ, ◌-◌, ◌<◌, ◌≤◌, length}
use Rattle.demand_worth.specs.Surcharges.{surcharge_at}
use Rattle.demand_worth.proofs.surcharges.count_below.Given as goal

abbrev pub invariant-loop-low : goal.invariant-loop-low
invariant-loop-low l = record {
  order : l.low ≤ l.high;
  within : l.high ≤ length l.list;
  below : (i : ℕ) → i < l.low → (surcharge_at l.list i).place < l.limit;
  others : (i : ℕ) → l.high ≤ i → i < length l.list → l.limit ≤ (surcharge_at l.list i).place;
}

abbrev pub decreases-loop-low : goal.decreases-loop-low
decreases-loop-low l = l.high - l.low
