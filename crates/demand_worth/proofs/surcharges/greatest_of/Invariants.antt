use Rattle.std.proofs.Common.{◌≡◌, take}
use Rattle.demand_worth.specs.Surcharges.{greatest_of}
use Rattle.demand_worth.proofs.surcharges.greatest_of.Given as goal

abbrev pub invariant-loop-surcharge : goal.invariant-loop-surcharge
invariant-loop-surcharge l = l.most ≡ greatest_of (take l.surcharge-index l.here)
