use Rattle.std.proofs.Common.{◌≡◌, ◌≤◌, ◌*◌, take}
use Rattle.plan_base.specs.declared.limits.TheConstants.{MAX_PRICED_LOAD}
use Rattle.cut_values.specs.Crossings.{rates_on}
use Rattle.cut_values.proofs.numbers.rates_on.Given as goal

-- the rates of the cuts before this one are added, each within the limit
abbrev pub invariant-loop-crossing : goal.invariant-loop-crossing
invariant-loop-crossing l = (l.total ≡ rates_on l.rates (take l.crossing-index l.row)) × (l.total ≤ l.crossing-index * MAX_PRICED_LOAD)
