use Rattle.std.proofs.Common.{◌≡◌, take}
use Rattle.plan_base.proofs.path.copy_counts.Given as goal

abbrev pub invariant-loop-list : goal.invariant-loop-list
invariant-loop-list l = l.copy.items ≡ take l.list-index l.counts
