use Rattle.plan_merge.proofs.Counting.{IsCounting}
use Rattle.plan_merge.proofs.merging.first_length.Given as goal

abbrev pub invariant-loop-place : goal.invariant-loop-place
invariant-loop-place l = IsCounting l.nodes l.left l.place
