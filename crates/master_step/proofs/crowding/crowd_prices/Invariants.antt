use Rattle.std.proofs.Common.{ℕ, ◌≡◌, ◌<◌, ◌≤◌, slice_index, length}
use Rattle.plan_base.specs.Places.{places}
use Rattle.master_step.specs.Outcomes.{crowd_price}
use Rattle.master_step.proofs.crowding.crowd_prices.Given as goal

-- the crowd price of each place before a number, and 0 behind the places
abbrev pub invariant-loop-number : goal.invariant-loop-number
invariant-loop-number l = record {
  count : length l.numerators.items ≡ l.number;
  each : (q : ℕ) → q < l.number → q < places l.inst → slice_index l.numerators.items q ≡ crowd_price l.inst l.prices q;
  rates : (i : ℕ) → i < l.number → places l.inst ≤ i → slice_index l.numerators.items i ≡ 0;
}
