use Rattle.std.proofs.Common.{◌≡◌, ◌<◌, None, ap, subst, sym, ◌∙◌, arith}
use Rattle.std.proofs.lemmas.List.{get_or_default}
use Rattle.plan_base.specs.declared.parts.Demand.{Demand}
use Rattle.verifier_paths.specs.Kept.{forbidden_by}
use Rattle.verifier_paths.specs.Labels.{label_at}
use Rattle.verifier_paths.proofs.LeastPrices.{least-price, label-within}
use Rattle.verifier_paths.proofs.rounds.least_price.Goals as goal

pub returns-clause-value : goal.returns-clause-value
returns-clause-value c =
    let p = c.args.inst.now in
    let r = forbidden_by c.args.forbidden.now in
    let k = c.args.demand.0 in
    let labels = c.in_ok-labels.labels.items in
    let target = c.demand.result.now.target.0 in
    let inside = subst (λ (x : Demand). x.target.0 < p.nodes) c.demand.ensures.value c.demand.ensures.lawful.target in
    let least = c.in_ok-labels.ensures.least in
    let read : c.index.result.now ≡ label_at labels target = c.index.ensures ∙ get_or_default labels target c.index.result.now None (omega (arith, least.count, c.demand.ensures.lawful.target)) in
    least-price p r c.args.prices.now k labels c.index.result.now inside least (sym (read ∙ ap (λ (x : Demand). label_at labels x.target.0) c.demand.ensures.value))

pub returns-clause-within : goal.returns-clause-within
returns-clause-within c =
    let p = c.args.inst.now in
    let source = subst (λ (x : Demand). x.source.0 < p.nodes) c.demand.ensures.value c.demand.ensures.lawful.source in
    label-within p (forbidden_by c.args.forbidden.now) c.args.prices.now c.args.demand.0 c.index.result.now c.least_prices.ensures.lawful source c.requires.limit (returns-clause-value c)
