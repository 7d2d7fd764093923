use Rattle.std.proofs.Common.{◌≡◌}
use Rattle.plan_base.specs.Sums.{sum_below}
use Rattle.demand_worth.specs.Worths.{weight_at}
use Rattle.demand_worth.proofs.worth_row.weight_total.Given as goal

abbrev pub invariant-loop-surcharge : goal.invariant-loop-surcharge
invariant-loop-surcharge l = l.total ≡ sum_below (weight_at l.inst l.unit l.here) l.surcharge-index
