use Rattle.std.proofs.Common.{length, ◌-◌}
use Rattle.bound_assembly.specs.Places.{AreFullBefore}
use Rattle.bound_assembly.proofs.round.next_left.Given as goal

abbrev pub invariant-loop-place : goal.invariant-loop-place
invariant-loop-place l = AreFullBefore l.lengths l.place

abbrev pub decreases-loop-place : goal.decreases-loop-place
decreases-loop-place l = length l.lengths - l.place
