use Rattle.completions.specs.Completions.{AreInside}
use Rattle.completions.proofs.completing.outside_link.Given as goal

abbrev pub invariant-loop-place : goal.invariant-loop-place
invariant-loop-place l = AreInside l.inst l.ranges l.design.paths l.place
