use Rattle.std.proofs.Common.{◌≡◌, ℕ, ◌<◌, slice_index}
use Rattle.demand_worth.proofs.worth_row.empty.Given as goal

abbrev pub invariant-loop-capacity : goal.invariant-loop-capacity
invariant-loop-capacity l = (c : ℕ) → c < l.capacity → slice_index l.cells c ≡ 0
