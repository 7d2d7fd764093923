use Rattle.std.proofs.Common.{arith, refl, subst, sym, ap, ◌≡◌, ◌+◌, ◌∙◌, Option, IfSome, IfNone, get_or, Vec, Global}
use Rattle.plan_base.specs.Arcs.{no_arc, head_of}
use Rattle.plan_base.specs.declared.ids.NodeId.{NodeId}
use Rattle.least_path.specs.declared.label.Label.{Label}
use Rattle.least_path.specs.Labels.{Labels, GoesOn, IsIdle, IsSpread, open_count, offered}
use Rattle.least_path.proofs.OfferLaws.{spread-offered, count-offered, spread-same, spread-next, relaxed-idle}
use Rattle.least_path.proofs.spread.Query.relax.Goals as goal
use Rattle.least_path.proofs.spread.Query.relax.Goals.{in-Some+in_ok-offer, in_default}

pub way_along-requires-clause-arc : goal.way_along-requires-clause-arc
way_along-requires-clause-arc g c = c.leaving-arc-items.ensures.value.are_arcs c.loop-arc.arc-index (omega arith)

pub way_along-requires-clause-tail : goal.way_along-requires-clause-tail
way_along-requires-clause-tail g c = c.leaving-arc-items.ensures.value.leave c.loop-arc.arc-index (omega arith)

pub way_along-requires-clause-short : goal.way_along-requires-clause-short
way_along-requires-clause-short g c = (c.loop-arc.invariant.spread.labels.each c.args.here.now.node.0 c.args.here.now.label c.loop-arc.invariant.spread.here).length_within

pub way_along-requires-clause-steps : goal.way_along-requires-clause-steps
way_along-requires-clause-steps g c = omega (arith, c.loop-arc.invariant.spread.steps)

pub loop-arc-preserved : goal.loop-arc-preserved
loop-arc-preserved g c =
    let p = c.args.self.now.inst.now in
    let ws = g.W.Weigher.weights c.args.self.now.weigher.now in
    let limit = c.args.self.now.limit in
    let s = c.args.self.now.source in
    let t = c.args.self.now.target in
    let stop = c.args.here.now in
    let arcs = c.leaving-arc-items.result.now in
    let i = c.loop-arc.arc-index in
    let a = get_or arcs i no_arc in
    let ls = c.loop-arc.labels.items in
    let spread = c.loop-arc.invariant.spread in
    elim c.match-way_along.branch [
      | in-Some+in_ok-offer w ↦
          let l = w.in-Some.label in
          let on : GoesOn p ws limit ls stop a l = subst (λ (x : Option Label). IfSome x (GoesOn p ws limit ls stop a)) w.in-Some.is (subst (λ (xs : Labels). IfSome c.way_along.result (GoesOn p ws limit xs stop a)) c.deref.ensures.value c.way_along.ensures.on) in
          let items : c.match-way_along.labels.items ≡ offered ls (head_of p a).0 l = ap (λ (v : Vec (Option Label) Global). v.items) w.labels-is ∙ w.in_ok-offer.ensures.labels ∙ ap (λ (v : NodeId). offered ls v.0 l) w.head.ensures.value in
          record {
            spread = subst (λ (x : Labels). IsSpread p ws limit s t x stop arcs (i + 1)) (sym items) (spread-next p ws limit s t (offered ls (head_of p a).0 l) stop arcs i (spread-offered p ws limit s t ls stop arcs i a l refl spread on));
            open_same = ap open_count items ∙ count-offered p ws limit s t ls stop arcs i a l spread on ∙ c.loop-arc.invariant.open_same;
            waits = rw (w.labels-is, w.queue-is) w.in_ok-offer.ensures.waits;
          }
      | in_default w ↦
          let items : c.match-way_along.labels.items ≡ ls = ap (λ (v : Vec (Option Label) Global). v.items) w.labels-is in
          let idle : IsIdle p ws limit t ls stop a = subst (λ (x : Option Label). IfNone x (IsIdle p ws limit t ls stop a)) w.in_default.is (subst (λ (xs : Labels). IfNone c.way_along.result (IsIdle p ws limit t xs stop a)) c.deref.ensures.value c.way_along.ensures.none) in
          let tail = c.leaving-arc-items.ensures.value.leave i (omega arith) in
          record {
            spread = subst (λ (x : Labels). IsSpread p ws limit s t x stop arcs (i + 1)) (sym items) (spread-next p ws limit s t ls stop arcs i (spread-same p ws limit s t ls stop arcs i spread (relaxed-idle p ws limit s t ls stop arcs i a spread tail idle)));
            open_same = ap open_count items ∙ c.loop-arc.invariant.open_same;
            waits = rw (w.labels-is, w.queue-is) c.loop-arc.invariant.waits;
          }
    ]
