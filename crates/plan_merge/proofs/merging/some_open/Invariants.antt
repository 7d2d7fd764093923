use Rattle.plan_merge.proofs.Counting.{IsSomeFrom}
use Rattle.plan_merge.proofs.merging.some_open.Given as goal

abbrev pub invariant-loop-place : goal.invariant-loop-place
invariant-loop-place l = IsSomeFrom l.records l.some l.place

abbrev pub decreases-loop-place : goal.decreases-loop-place
decreases-loop-place l = l.place
