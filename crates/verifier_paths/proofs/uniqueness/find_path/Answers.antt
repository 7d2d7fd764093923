use Rattle.std.proofs.Common.{◌≡◌, ◌<◌, None, ap, subst, sym, ◌∙◌, arith}
use Rattle.std.proofs.lemmas.List.{get_or_default}
use Rattle.plan_base.specs.declared.parts.Demand.{Demand}
use Rattle.plan_base.specs.Arcs.{demand_at}
use Rattle.verifier_paths.specs.Labels.{open_arcs, label_at}
use Rattle.verifier_paths.specs.OnlyPaths.{AreFewestArcs}
use Rattle.verifier_paths.proofs.LeastPrices.{open_are_arcs}
use Rattle.verifier_paths.proofs.StepsBack.{fewest_of_least, no_path}
use Rattle.verifier_paths.proofs.uniqueness.find_path.Goals as goal

pub arcs_back-requires-clause-labels : goal.arcs_back-requires-clause-labels
arcs_back-requires-clause-labels c =
    let p = c.args.ways.now.inst.now in
    let k = c.args.ways.now.demand.0 in
    let takes = open_arcs c.args.ways.now in
    let source = (demand_at p k).source.0 in
    subst (AreFewestArcs p takes source) (sym c.deref.ensures.value)
    (fewest_of_least p takes c.args.ones.now source c.in_ok-labels.labels.items c.requires.ones (open_are_arcs c.args.ways.now) c.in_ok-labels.ensures.least)

pub returns-clause-none : goal.returns-clause-none
returns-clause-none c =
    let p = c.args.ways.now.inst.now in
    let takes = open_arcs c.args.ways.now in
    let k = c.args.ways.now.demand.0 in
    let labels = c.in_ok-labels.labels.items in
    let target = c.demand.result.now.target.0 in
    let inside = subst (λ (x : Demand). x.target.0 < p.nodes) c.demand.ensures.value c.demand.ensures.lawful.target in
    let least = fewest_of_least p takes c.args.ones.now (demand_at p k).source.0 labels c.requires.ones (open_are_arcs c.args.ways.now) c.in_ok-labels.ensures.least in
    let read : None ≡ label_at labels target = sym c.in-None.is ∙ c.index.ensures ∙ get_or_default labels target c.index.result.now None (omega (arith, least.count, c.demand.ensures.lawful.target)) in
    no_path p takes k labels inside least (sym (read ∙ ap (λ (x : Demand). label_at labels x.target.0) c.demand.ensures.value))
