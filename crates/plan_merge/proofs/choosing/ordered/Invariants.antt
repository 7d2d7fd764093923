use Rattle.plan_merge.proofs.ChoosingLaws.{AreKeys}
use Rattle.plan_merge.proofs.choosing.ordered.Given as goal

abbrev pub invariant-loop-place : goal.invariant-loop-place
invariant-loop-place l = AreKeys l.records l.place l.keys.items
