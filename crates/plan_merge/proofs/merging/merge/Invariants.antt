use Rattle.std.proofs.Common.{length, ◌≤◌}
use Rattle.plan_merge.proofs.Counting.{IsMerging}
use Rattle.plan_merge.proofs.merging.merge.Given as goal

abbrev pub invariant-loop-ones : goal.invariant-loop-ones
invariant-loop-ones l = IsMerging l.fn.one l.fn.other l.all.items l.ones l.others × (length l.ones ≤ length l.fn.one) × (length l.others ≤ length l.fn.other)

abbrev pub decreases-loop-ones : goal.decreases-loop-ones
decreases-loop-ones l = length l.ones
