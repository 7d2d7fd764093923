use Rattle.link_steps.proofs.WholeRanges.{AreWholeTo}
use Rattle.link_steps.proofs.range.put_whole.Given as goal

abbrev pub invariant-loop-place : goal.invariant-loop-place
invariant-loop-place l = AreWholeTo l.inst l.place l.rows.items
