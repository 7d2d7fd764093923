use Rattle.std.proofs.Common.{◌≡◌, ◌+◌, length}
use Rattle.plan_base.specs.Places.{places}
use Rattle.master_step.proofs.averaging.put_rates.Given as goal

abbrev pub invariant-loop-number : goal.invariant-loop-number
invariant-loop-number l = length l.trial ≡ places l.table.problem + length l.table.cuts
