use Rattle.std.proofs.Common.{◌≡◌, length}
use Rattle.master_step.proofs.work.Work.link_costs.Given as goal

abbrev pub invariant-loop-number : goal.invariant-loop-number
invariant-loop-number l = length l.costs.items ≡ l.number
