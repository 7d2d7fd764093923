use Rattle.std.proofs.Common.{◌≡◌, ◌*◌, ℕ, length, ap, ◌∙◌, arith}
use Rattle.arc_restrict.specs.Rows.{forbids}
use Rattle.path_pricing.specs.Weights.{weights_below}
use Rattle.path_pricing.proofs.WeightLaws.{weights_below-next}
use Rattle.path_pricing.proofs.pricing.arc_weights.Goals as goal

pub loop-number-preserved : goal.loop-number-preserved
loop-number-preserved c =
    weights_below-next c.args.inst.now c.args.prices.now c.args.demand.0 (forbids c.args.restriction.now) c.loop-number.number
    c.loop-number.weights.items c.push.new.self.items c.open_price.result c.loop-number.invariant c.open_price.ensures c.in_ok-push.ensures.items

pub returns : goal.returns
returns c =
    let all : c.loop-number.number ≡ 2 * length c.args.inst.now.links = omega arith in
    c.loop-number.invariant ∙ ap (λ (n : ℕ). weights_below c.args.inst.now c.args.prices.now c.args.demand.0 (forbids c.args.restriction.now) n) all
