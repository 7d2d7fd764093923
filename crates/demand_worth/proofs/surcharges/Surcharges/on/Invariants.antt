use Rattle.std.proofs.Common.{◌≡◌, drop}
use Rattle.demand_worth.specs.Surcharges.{number_of}
use Rattle.demand_worth.proofs.surcharges.Surcharges.on.Given as goal

abbrev pub invariant-loop-surcharge : goal.invariant-loop-surcharge
invariant-loop-surcharge l = number_of l.surcharge-items l.demand.0 ≡ number_of (drop l.surcharge-index l.surcharge-items) l.demand.0
