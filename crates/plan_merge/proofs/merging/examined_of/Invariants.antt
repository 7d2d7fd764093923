use Rattle.plan_merge.proofs.Counting.{IsCountFrom}
use Rattle.plan_merge.proofs.merging.examined_of.Given as goal

abbrev pub invariant-loop-place : goal.invariant-loop-place
invariant-loop-place l = IsCountFrom l.records l.count l.place

abbrev pub decreases-loop-place : goal.decreases-loop-place
decreases-loop-place l = l.place
