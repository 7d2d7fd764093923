use Rattle.std.proofs.Common.{◌≡◌, length}
use Rattle.plan_base.specs.Places.{places}
use Rattle.gate_searches.proofs.masters.made.made_ranges.Given as goal

abbrev pub invariant-loop-place : goal.invariant-loop-place
invariant-loop-place l = length l.ranges ≡ places l.inst
