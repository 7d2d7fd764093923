use Rattle.std.proofs.Common.{◌≡◌, ◌+◌, ◌∙◌, ◌<◌, ℕ, Option, IsSome, false, true, get_or, length, refl, sym, ap, subst, arith}
use Rattle.plan_base.specs.Arcs.{no_arc}
use Rattle.limited_path.specs.declared.label.Label.{Label}
use Rattle.limited_path.specs.declared.ways.Ways.{Ways}
use Rattle.limited_path.specs.Labels.{Labels, Latest, IsSpread, label_at, place_of, labels_with, latest_with}
use Rattle.limited_path.proofs.OfferLaws.{latest-within, goes-on, memory-offered, kept-offered, spread-offered, spread-passed}
use Rattle.limited_path.proofs.RoundLaws.{spread-end}
use Rattle.limited_path.proofs.rounds.Query.go_on.Goals as goal
use Rattle.limited_path.proofs.rounds.Query.go_on.Goals.{in-Some, in_default}

pub offer-requires-clause-latest : goal.offer-requires-clause-latest
offer-requires-clause-latest c = latest-within c.args.self.now.inst.now c.args.self.now.weights.now c.args.self.now.source c.loop-arc.ways.labels.items c.loop-arc.ways.latest.items c.head.result.0 c.loop-arc.invariant.spread.round.ways

pub offer-requires-clause-memory : goal.offer-requires-clause-memory
offer-requires-clause-memory c = λ is.
    let p = c.args.self.now.inst.now in
    let ws = c.args.self.now.weights.now in
    let start = c.args.round.start in
    let n = c.args.round.steps in
    let k = c.args.place in
    let here = c.index-here.result.now in
    let arcs = c.leaving-arc-items.result.now in
    let i = c.loop-arc.arc-index in
    let ls = c.loop-arc.ways.labels.items in
    let inv = c.loop-arc.invariant in
    let within : i < length arcs = omega arith in
    let l : Label = record { node = c.head.result; length = here.length + c.in-Some.weight; steps = n; via = get_or arcs i no_arc; parent = k } in
    let on = goes-on p ws ls start n k here arcs i c.in-Some.weight c.head.result c.requires.place inv.label_is c.leaving-arc-items.ensures.value within c.in-Some.is c.head.ensures.value c.head.ensures.within in
    omega (arith, memory-offered p ws c.args.self.now.source ls c.loop-arc.ways.latest.items start n k l c.requires.weights c.requires.steps inv.spread.round on is, inv.label_memory, c.requires.memory)

pub loop-arc-preserved : goal.loop-arc-preserved
loop-arc-preserved c =
    let p = c.args.self.now.inst.now in
    let ws = c.args.self.now.weights.now in
    let s = c.args.self.now.source in
    let start = c.args.round.start in
    let n = c.args.round.steps in
    let k = c.args.place in
    let here = c.index-here.result.now in
    let arcs = c.leaving-arc-items.result.now in
    let i = c.loop-arc.arc-index in
    let ls = c.loop-arc.ways.labels.items in
    let la = c.loop-arc.ways.latest.items in
    let inv = c.loop-arc.invariant in
    let within : i < length arcs = omega arith in
    elim c.match-self-arc.branch [
      | in-Some w ↦
          let l : Label = record { node = w.head.result; length = here.length + w.in-Some.weight; steps = n; via = get_or arcs i no_arc; parent = k } in
          let on = goes-on p ws ls start n k here arcs i w.in-Some.weight w.head.result c.requires.place inv.label_is c.leaving-arc-items.ensures.value within w.in-Some.is w.head.ensures.value w.head.ensures.within in
          let labels : c.match-self-arc.ways.labels.items ≡ labels_with ls l (place_of ls la start l) = ap (λ (x : Ways). x.labels.items) w.ways-is ∙ w.offer.ensures.labels in
          let latest : c.match-self-arc.ways.latest.items ≡ latest_with la l (place_of ls la start l) = ap (λ (x : Ways). x.latest.items) w.ways-is ∙ w.offer.ensures.latest in
          record {
            spread = subst (λ (x : Labels). IsSpread p ws s x c.match-self-arc.ways.latest.items start n k arcs (i + 1)) (sym labels)
                (subst (λ (x : Latest). IsSpread p ws s (labels_with ls l (place_of ls la start l)) x start n k arcs (i + 1)) (sym latest)
                (spread-offered p ws s ls la start n k arcs i l c.requires.weights inv.spread on refl));
            label_memory = ap (λ (x : Ways). x.labels.cap) w.ways-is ∙ w.offer.ensures.label_memory ∙ inv.label_memory;
            node_memory = ap (λ (x : Ways). x.latest.cap) w.ways-is ∙ w.offer.ensures.node_memory ∙ inv.node_memory;
            label_is = ap (λ (x : Labels). label_at x k) labels ∙ kept-offered p ws s ls la start n k l inv.spread.round c.requires.place ∙ inv.label_is;
          }
      | in_default w ↦
          let labels : c.match-self-arc.ways.labels.items ≡ ls = ap (λ (x : Ways). x.labels.items) w.ways-is in
          let latest : c.match-self-arc.ways.latest.items ≡ la = ap (λ (x : Ways). x.latest.items) w.ways-is in
          record {
            spread = subst (λ (x : Labels). IsSpread p ws s x c.match-self-arc.ways.latest.items start n k arcs (i + 1)) (sym labels)
                (subst (λ (x : Latest). IsSpread p ws s ls x start n k arcs (i + 1)) (sym latest)
                (spread-passed p ws s ls la start n k arcs i inv.spread (λ usable. absurd (let bad : false ≡ true = subst (λ (x : Option ℕ). IsSome x) w.in_default.is usable.weighted in cc))));
            label_memory = ap (λ (x : Ways). x.labels.cap) w.ways-is ∙ inv.label_memory;
            node_memory = ap (λ (x : Ways). x.latest.cap) w.ways-is ∙ inv.node_memory;
            label_is = ap (λ (x : Labels). label_at x k) labels ∙ inv.label_is;
          }
    ]

pub returns-clause-round : goal.returns-clause-round
returns-clause-round c =
    spread-end c.args.self.now.inst.now c.args.self.now.weights.now c.args.self.now.source c.loop-arc.ways.labels.items c.loop-arc.ways.latest.items c.args.round.start c.args.round.steps c.args.place
    c.index-here.result.now c.leaving-arc-items.result.now c.loop-arc.arc-index c.loop-arc.invariant.label_is c.leaving-arc-items.ensures.value (omega arith) c.loop-arc.invariant.spread
