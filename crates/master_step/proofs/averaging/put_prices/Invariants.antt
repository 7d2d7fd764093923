use Rattle.std.proofs.Common.{◌≡◌, ◌+◌, length}
use Rattle.plan_base.specs.Places.{places}
use Rattle.master_step.proofs.averaging.put_prices.Given as goal

abbrev pub invariant-loop-place : goal.invariant-loop-place
invariant-loop-place l = length l.trial ≡ places l.table.problem + length l.table.cuts
