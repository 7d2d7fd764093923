use Rattle.std.proofs.Common.{◌≡◌}
use Rattle.arc_restrict.specs.Rows.{forbids}
use Rattle.path_pricing.specs.Weights.{weights_below}
use Rattle.path_pricing.proofs.pricing.arc_weights.Given as goal

abbrev pub invariant-loop-number : goal.invariant-loop-number
invariant-loop-number l = l.weights.items ≡ weights_below l.query.inst.now l.query.prices.now l.query.demand.0 (forbids l.query.restriction.now) l.number
