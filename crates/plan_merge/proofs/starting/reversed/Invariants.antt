use Rattle.std.proofs.Common.{◌≡◌, ◌≤◌, drop, reverse, length}
use Rattle.plan_merge.proofs.starting.reversed.Given as goal

abbrev pub invariant-loop-place : goal.invariant-loop-place
invariant-loop-place l = (l.limits.items ≡ reverse (drop l.place l.path)) × (l.place ≤ length l.path)

abbrev pub decreases-loop-place : goal.decreases-loop-place
decreases-loop-place l = l.place
