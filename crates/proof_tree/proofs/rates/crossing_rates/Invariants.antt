use Rattle.std.proofs.Common.{◌≡◌, ◌≤◌, ◌*◌}
use Rattle.plan_base.specs.declared.limits.TheConstants.{MAX_PRICED_LOAD}
use Rattle.link_steps.specs.Tallies.{rate_total}
use Rattle.proof_tree.specs.RatedBounds.{rated_before}
use Rattle.proof_tree.proofs.rates.crossing_rates.Given as goal

-- the rates of the cuts before this one are added, each within the limit
abbrev pub invariant-loop-number : goal.invariant-loop-number
invariant-loop-number l = (l.total ≡ rate_total (rated_before l.inst l.cuts l.rates l.place l.number)) × (l.total ≤ l.number * MAX_PRICED_LOAD)
