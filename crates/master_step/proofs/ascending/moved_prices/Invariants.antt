use Rattle.cut_values.specs.Numbers.{AreNumbers}
use Rattle.master_step.proofs.ascending.moved_prices.Given as goal

abbrev pub invariant-loop-place : goal.invariant-loop-place
invariant-loop-place l = AreNumbers l.table.problem l.table.cuts l.moved
