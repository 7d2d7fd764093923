use Rattle.link_steps.specs.Values.{IsValueTotal}
use Rattle.link_steps.proofs.table.StepTable.value_total.Given as goal

abbrev pub invariant-loop-place : goal.invariant-loop-place
invariant-loop-place l = IsValueTotal l.self l.ranges l.prices l.place l.total
