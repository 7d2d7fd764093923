use Rattle.link_steps.specs.Candidates.{IsFirstBest}
use Rattle.link_steps.proofs.value.first_best.Given as goal

abbrev pub invariant-loop-place : goal.invariant-loop-place
invariant-loop-place l = IsFirstBest l.link l.ranges l.price l.back_price l.steps l.from l.place l.best
