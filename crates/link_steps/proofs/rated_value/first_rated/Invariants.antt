use Rattle.link_steps.specs.Candidates.{IsFirstLeast}
use Rattle.link_steps.specs.Tallies.{worth}
use Rattle.link_steps.proofs.rated_value.first_rated.Given as goal

abbrev pub invariant-loop-place : goal.invariant-loop-place
invariant-loop-place l = IsFirstLeast l.link l.ranges (worth l.price l.there) (worth l.back_price l.back) l.steps l.from l.place l.best
