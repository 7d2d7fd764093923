use Rattle.plan_merge.proofs.ChoosingLaws.{AreChosenSoFar}
use Rattle.plan_merge.proofs.choosing.chosen_by.Given as goal

abbrev pub invariant-loop-turn : goal.invariant-loop-turn
invariant-loop-turn l = AreChosenSoFar l.keys l.part l.turn l.count l.chosen.items
