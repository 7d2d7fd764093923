use Rattle.std.proofs.Common.{◌≡◌, ◌∙◌, ◌++◌, ◌∷◌, [], List, sym, subst, arith}
use Rattle.std.proofs.lemmas.List.{get_or_read}
use Rattle.plan_base.specs.declared.ids.ArcId.{ArcId}
use Rattle.limited_path.specs.declared.label.Label.{Label}
use Rattle.limited_path.specs.Labels.{label_at, no_label}
use Rattle.limited_path.proofs.WayLaws.{IsReadBack, back-reached, back-more}
use Rattle.limited_path.proofs.rounds.Query.read_way.Goals as goal

pub loop-here-preserved : goal.loop-here-preserved
loop-here-preserved c =
    let p = c.args.self.now.inst.now in
    let ws = c.args.self.now.weights.now in
    let s = c.args.self.now.source in
    let ls = c.args.ways.now.labels.items in
    let la = c.args.ways.now.latest.items in
    let last = label_at ls c.args.place in
    let here = c.loop-here.here in
    let arcs = c.loop-here.arcs.items in
    let next = c.index-here-in-loop-here.result.now in
    let inv = c.loop-here.invariant in
    let r = back-reached p ws s ls la last here arcs c.requires.ways c.loop-here-test.true inv.read in
    let is : next ≡ label_at ls here.parent = get_or_read ls here.parent next (omega (arith, r.earlier, inv.read.within)) c.index-here-in-loop-here.ensures no_label in
    let more = back-more p ws s ls la last here arcs c.requires.ways c.loop-here-test.true inv.read in
    record {
      read = subst (λ (xs : List ArcId). IsReadBack ls last next xs) (sym c.push_reserved.ensures.items) (subst (λ (x : Label). IsReadBack ls last x (arcs ++ here.via ∷ [])) (sym is) more);
      memory = c.push_reserved.ensures.capacity ∙ inv.memory;
    }
