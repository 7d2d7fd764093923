use Rattle.std.proofs.Common.{◌≡◌, ℕ, ◌<◌, ◌≤◌, slice_index}
use Rattle.demand_worth.specs.Worths.{with_one}
use Rattle.demand_worth.proofs.worth_row.put_one.Given as goal

abbrev pub invariant-loop-capacity : goal.invariant-loop-capacity
invariant-loop-capacity l = record {
  within : l.capacity ≤ l.count;
  done : (c : ℕ) → l.capacity ≤ c → c < l.count → slice_index l.cells c ≡ with_one (slice_index l.fn.cells) l.weight l.gain c;
  left : (c : ℕ) → c < l.capacity → slice_index l.cells c ≡ slice_index l.fn.cells c;
}

abbrev pub decreases-loop-capacity : goal.decreases-loop-capacity
decreases-loop-capacity l = l.capacity
