use Rattle.plan_merge.proofs.Counting.{IsLeastFrom}
use Rattle.plan_merge.proofs.merging.least_bound.Given as goal

abbrev pub invariant-loop-place : goal.invariant-loop-place
invariant-loop-place l = IsLeastFrom l.records l.least l.place

abbrev pub decreases-loop-place : goal.decreases-loop-place
decreases-loop-place l = l.place
