use Rattle.std.proofs.Common.{◌≡◌, ◌∙◌, false, sym, ap}
use Rattle.plan_base.specs.declared.ids.NodeId.{NodeId}
use Rattle.plan_base.specs.Arcs.{head_of}
use Rattle.least_path.specs.Labels.{label_at, is_better}
use Rattle.least_path.proofs.OfferLaws.{near-idle}
use Rattle.least_path.proofs.spread.Query.way_along.Goals as goal

pub returns-then-not-is_better-clause-none : goal.returns-then-not-is_better-clause-none
returns-then-not-is_better-clause-none g c =
    let p = c.args.self.now.inst.now in
    let a = c.args.arc in
    let ls = c.args.labels.now in
    let known : c.known_label.result ≡ label_at ls (head_of p a).0 = c.known_label.ensures ∙ ap (λ (v : NodeId). label_at ls v.0) c.head.ensures.value in
    let worse : is_better c.args.here.now.label c.known_label.result ≡ false = sym c.is_better.ensures ∙ c.if-not-is_better.true in
    near-idle p (g.W.Weigher.weights c.args.self.now.weigher.now) c.args.self.now.limit c.args.self.now.target ls c.args.here.now a (rw known at worse)
