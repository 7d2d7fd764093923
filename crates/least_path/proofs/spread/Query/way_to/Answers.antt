use Rattle.std.proofs.Common.{arith, subst, refl, sym, ap, ◌≡◌, Some, Option, IsSome, List}
use Rattle.plan_base.specs.declared.ids.ArcId.{ArcId}
use Rattle.plan_base.specs.declared.ids.NodeId.{NodeId}
use Rattle.plan_base.specs.Arcs.{tail_of}
use Rattle.least_path.specs.declared.label.Label.{Label}
use Rattle.least_path.specs.Labels.{label_at}
use Rattle.least_path.proofs.NearestLaws.{some_same}
use Rattle.least_path.proofs.WayLaws.{back-reached, back-more, IsReadBack}
use Rattle.least_path.proofs.spread.Query.way_to.Goals as goal

pub tail-requires : goal.tail-requires
tail-requires g c =
    (back-reached c.args.self.now.inst.now (g.W.Weigher.weights c.args.self.now.weigher.now) c.args.self.now.source c.args.self.now.target c.args.labels.now c.args.last.now.label c.loop-here.here c.loop-here.arcs.items c.requires.search.labels (omega arith) c.loop-here.invariant).usable.is_an_arc

pub label_of-here-requires : goal.label_of-here-requires
label_of-here-requires g c =
    let r = back-reached c.args.self.now.inst.now (g.W.Weigher.weights c.args.self.now.weigher.now) c.args.self.now.source c.args.self.now.target c.args.labels.now c.args.last.now.label c.loop-here.here c.loop-here.arcs.items c.requires.search.labels (omega arith) c.loop-here.invariant in
    subst (λ (v : NodeId). IsSome (label_at c.args.labels.now v.0)) (sym c.tail.ensures.value) (subst (λ (x : Option Label). IsSome x) (sym r.parent_is) refl)

pub loop-here-smaller : goal.loop-here-smaller
loop-here-smaller g c =
    let r = back-reached c.args.self.now.inst.now (g.W.Weigher.weights c.args.self.now.weigher.now) c.args.self.now.source c.args.self.now.target c.args.labels.now c.args.last.now.label c.loop-here.here c.loop-here.arcs.items c.requires.search.labels (omega arith) c.loop-here.invariant in
    let at : label_at c.args.labels.now (tail_of c.args.self.now.inst.now c.loop-here.here.via).0 ≡ Some c.label_of-here.result = subst (λ (v : NodeId). label_at c.args.labels.now v.0 ≡ Some c.label_of-here.result) c.tail.ensures.value c.label_of-here.ensures in
    let same = ap (λ (l : Label). l.steps) (some_same (label_at c.args.labels.now (tail_of c.args.self.now.inst.now c.loop-here.here.via).0) r.parent c.label_of-here.result r.parent_is at) in
    omega (arith, same, r.steps)

pub loop-here-preserved : goal.loop-here-preserved
loop-here-preserved g c =
    let at : label_at c.args.labels.now (tail_of c.args.self.now.inst.now c.loop-here.here.via).0 ≡ Some c.label_of-here.result = subst (λ (v : NodeId). label_at c.args.labels.now v.0 ≡ Some c.label_of-here.result) c.tail.ensures.value c.label_of-here.ensures in
    let more = back-more c.args.self.now.inst.now (g.W.Weigher.weights c.args.self.now.weigher.now) c.args.self.now.source c.args.self.now.target
    c.args.labels.now c.args.last.now.label c.loop-here.here c.label_of-here.result c.loop-here.arcs.items c.requires.search.labels (omega arith) c.loop-here.invariant at in
    subst (λ (arcs : List ArcId). IsReadBack c.args.self.now.inst.now c.args.labels.now c.args.last.now.label c.label_of-here.result arcs) (sym c.in_ok-push.ensures.items) more
