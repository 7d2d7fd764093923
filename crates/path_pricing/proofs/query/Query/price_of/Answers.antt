use Rattle.std.proofs.Common.{◌<◌, get_or, length, List, ap, ◌∙◌, arith}
use Rattle.std.proofs.lemmas.List.{take_all}
use Rattle.plan_base.specs.declared.ids.ArcId.{ArcId}
use Rattle.plan_base.specs.Arcs.{no_arc}
use Rattle.plan_base.specs.Places.{place_of}
use Rattle.arc_restrict.specs.Prices.{price_of}
use Rattle.path_pricing.proofs.PriceSums.{place-priced, price-small, price-next}
use Rattle.path_pricing.proofs.query.Query.price_of.Goals as goal

pub price_at-price-requires : goal.price_at-price-requires
price_at-price-requires c = place-priced c.args.self.now.inst.now c.args.self.now.prices.now c.args.arcs.now c.loop-arc.arc-index no_arc c.requires.places (omega arith)

pub loop-arc-preserved : goal.loop-arc-preserved
loop-arc-preserved c =
    let p = c.args.self.now.inst.now in
    let prices = c.args.self.now.prices.now in
    let arcs = c.args.arcs.now in
    let i = c.loop-arc.arc-index in
    let a = get_or arcs i no_arc in
    let within : i < length arcs = omega arith in
    let placed : place_of p a < length prices = place-priced p prices arcs i no_arc c.requires.places within in
    record {
      is = omega (arith, c.loop-arc.invariant.is, c.price_at-price.ensures, price-next p prices arcs i no_arc within);
      small = omega (arith, c.loop-arc.invariant.small, c.price_at-price.ensures, price-small p prices a c.requires.small placed);
    }

pub returns : goal.returns
returns c = c.loop-arc.invariant.is ∙ ap (λ (arcs : List ArcId). price_of c.args.self.now.inst.now c.args.self.now.prices.now arcs) (take_all c.loop-arc.arc-index c.args.arcs.now (omega arith))
