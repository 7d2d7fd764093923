use Rattle.std.proofs.Common.{◌≡◌, drop}
use Rattle.plan_merge.specs.Merging.{same_arcs}
use Rattle.plan_merge.proofs.merging.same_arcs.Given as goal

abbrev pub invariant-loop-place : goal.invariant-loop-place
invariant-loop-place l = same_arcs (drop l.place l.one) (drop l.place l.other) ≡ same_arcs l.one l.other
