use Rattle.std.proofs.Common.{◌≡◌, ◌+◌, true, List, get_or, [], sym, subst, ◌∙◌, rules, Some}
use Rattle.plan_base.specs.declared.ids.ArcId.{ArcId}
use Rattle.arc_restrict.specs.Prices.{price_of}
use Rattle.master_step.specs.declared.source.Least.{Least}
use Rattle.master_step.specs.Choosing.{all_of, is_allowed, IsLeastOf}
use Rattle.master_step.proofs.SmallPrices.{price_along-whole}
use Rattle.master_step.proofs.Looking.{least-more}
use Rattle.master_step.proofs.source.Source.look.Goals as goal

pub returns : goal.returns
returns c =
    let p = c.args.inst.now in
    let k = c.args.demand.0 in
    let all : List (List ArcId) = all_of c.args.self.now k in
    let told : c.allows.result ≡ true = search rules in
    let passes : is_allowed c.args.self.now k (get_or all c.args.place []) ≡ true =
    subst (λ (path : List ArcId). is_allowed c.args.self.now k path ≡ true) c.path-path.ensures (sym c.allows.ensures ∙ told) in
    let path : c.as_slice.result.now ≡ get_or all c.args.place [] = c.as_slice.ensures.value ∙ c.path-path.ensures in
    let is : c.price_along-price.result ≡ price_of p c.args.prices.now (get_or all c.args.place []) =
    price_along-whole p k c.args.prices.now (get_or all c.args.place []) c.price_along-price.result c.lawful.ensures c.requires.demand c.requires.limit (c.requires.source.simple k c.args.place c.requires.demand c.requires.place) (rw path at c.price_along-price.ensures) in
    subst (λ (least : Least). IsLeastOf p c.args.prices.now (is_allowed c.args.self.now k) all (c.args.place + 1) (Some least)) (sym c.cheaper.ensures)
    (least-more p c.args.prices.now (is_allowed c.args.self.now k) all c.args.place c.requires.place c.args.least c.price_along-price.result passes is c.requires.least)
