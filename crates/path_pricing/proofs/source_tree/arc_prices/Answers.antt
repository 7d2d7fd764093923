use Rattle.std.proofs.Common.{◌<◌, ◌/◌, length, refl, arith, rules}
use Rattle.path_pricing.proofs.ArcPrices.{none_priced, one_priced, all_priced}
use Rattle.path_pricing.proofs.source_tree.arc_prices.Goals as goal

pub loop-number-init : goal.loop-number-init
loop-number-init c = none_priced _ (search rules)

pub loop-number-preserved : goal.loop-number-preserved
loop-number-preserved c =
    let link : c.loop-number.number / 2 < length c.args.inst.now.links = omega arith in
    let within = c.place.ensures.within link in
    one_priced c.args.inst.now c.args.prices.now c.loop-number.number c.place.result _ _ _ c.requires (omega (arith, within, c.requires.count)) refl c.in_ok-push.ensures.items c.loop-number.invariant

pub returns : goal.returns
returns c = all_priced c.args.inst.now c.loop-number.number c.loop-number.weights.items (omega arith) c.loop-number.invariant
