use Rattle.std.proofs.Common.{◌≡◌, ap, ◌∙◌}
use Rattle.std.proofs.lemmas.List.{get_or_default}
use Rattle.plan_base.specs.declared.ids.NodeId.{NodeId}
use Rattle.plan_base.specs.Arcs.{head_of, no_arc}
use Rattle.plan_base.specs.Paths.{arc_at}
use Rattle.second_path.proofs.Visits.{spent_more}
use Rattle.second_path.proofs.search.Search.go_on.Goals as goal

pub returns-clause-spent : goal.returns-clause-spent
returns-clause-spent c =
    let p = c.args.ways.now.inst.now in
    let arrivals = c.args.self.now.arrivals.items in
    let is_node : c.head-node.result ≡ head_of p (arc_at arrivals c.args.place) = c.head-node.ensures.value ∙ ap (head_of p) (c.index.ensures ∙ get_or_default arrivals c.args.place _ no_arc c.requires.place) in
    λ first start so_far. spent_more p _ first start c.args.place _ c.args.self.now.met.items c.visit.new.self.met.items arrivals c.visit.new.self.arrivals.items
    c.requires.place (ap (λ (v : NodeId). v.0) is_node) so_far c.in_ok-visit.ensures.visit
