use Rattle.std.proofs.Common.{reverse}
use Rattle.plan_merge.proofs.WaitingLaws.{AreStarting}
use Rattle.plan_merge.proofs.starting.starts_of.Given as goal

abbrev pub invariant-loop-place : goal.invariant-loop-place
invariant-loop-place l = AreStarting l.records l.chosen l.place l.starts.items l.path.items (reverse l.waiting.items)
