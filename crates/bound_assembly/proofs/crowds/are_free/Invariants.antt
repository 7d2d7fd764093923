use Rattle.bound_assembly.specs.RoundBounds.{AreFree}
use Rattle.bound_assembly.proofs.crowds.are_free.Given as goal

abbrev pub invariant-loop-place : goal.invariant-loop-place
invariant-loop-place l = AreFree l.inst l.ranges l.prices l.place
