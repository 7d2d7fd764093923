use Rattle.std.proofs.Common.{◌≡◌, ℕ, ◌<◌, slice_index}
use Rattle.demand_worth.specs.Worths.{best_of}
use Rattle.demand_worth.proofs.worth_row.fill.Given as goal

abbrev pub invariant-loop-surcharge : goal.invariant-loop-surcharge
invariant-loop-surcharge l = (c : ℕ) → c < l.count → slice_index l.cells c ≡ best_of l.inst l.unit l.here l.surcharge-index c
