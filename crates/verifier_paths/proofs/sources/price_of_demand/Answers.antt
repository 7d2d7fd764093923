use Rattle.std.proofs.Common.{◌<◌, subst, sym}
use Rattle.plan_base.specs.declared.parts.Demand.{Demand}
use Rattle.verifier_paths.specs.Kept.{forbidden_by}
use Rattle.verifier_paths.specs.Labels.{label_at}
use Rattle.verifier_paths.specs.Sources.{IsPriceOf}
use Rattle.verifier_paths.proofs.SourcePrices.{price_unrestricted}
use Rattle.verifier_paths.proofs.sources.price_of_demand.Goals as goal

pub returns-then-is_unrestricted : goal.returns-then-is_unrestricted
returns-then-is_unrestricted c =
    let p = c.args.inst.now in
    let r = forbidden_by c.args.forbidden.now in
    let k = c.args.demand.0 in
    let labels = c.args.labels.now in
    let source = subst (λ (x : Demand). x.source.0 < p.nodes) c.demand.ensures.value c.demand.ensures.lawful.source in
    let target = subst (λ (x : Demand). x.target.0 < p.nodes) c.demand.ensures.value c.demand.ensures.lawful.target in
    subst (λ (x : Demand). IsPriceOf p r c.args.prices.now k (label_at labels x.target.0)) (sym c.demand.ensures.value)
    (price_unrestricted p r c.args.prices.now k labels c.lawful.ensures c.requires.limit source target c.requires.labels (c.is_unrestricted.ensures.0 c.if-is_unrestricted.true))
