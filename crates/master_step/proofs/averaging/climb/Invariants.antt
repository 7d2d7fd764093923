use Rattle.cut_values.specs.Numbers.{AreNumbers}
use Rattle.master_step.proofs.averaging.climb.Given as goal

-- the best numbers and those of the turn fit
abbrev pub invariant-loop-turn : goal.invariant-loop-turn
invariant-loop-turn l = record { best : AreNumbers l.table.problem l.table.cuts l.best; trial : AreNumbers l.table.problem l.table.cuts l.trial }
