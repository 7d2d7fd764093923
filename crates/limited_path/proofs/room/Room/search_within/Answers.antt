use Rattle.std.proofs.Common.{◌≡◌, ◌-◌, ◌∙◌, ℕ, List, Some, None, min, sym, ap, subst, arith}
use Rattle.std.proofs.lemmas.List.{get_or_read}
use Rattle.plan_base.specs.declared.ids.ArcId.{ArcId}
use Rattle.limited_path.specs.declared.label.Label.{Label}
use Rattle.limited_path.specs.Within.{IsLeastWithin}
use Rattle.limited_path.specs.Labels.{Labels, Latest, AreRounds, IsSearch, label_at, latest_at, no_label, way, first_labels_of, first_latest_of}
use Rattle.limited_path.proofs.RoundLaws.{first-rounds}
use Rattle.limited_path.proofs.FoundLaws.{found, none-found}
use Rattle.limited_path.proofs.room.Room.search_within.Goals as goal

pub rounds-requires-clause-start : goal.rounds-requires-clause-start
rounds-requires-clause-start c =
    let p = c.args.inst.now in
    let ws = c.args.weights.now in
    let s = c.args.source in
    let latest = c.begin.ensures.latest ∙ ap (λ (n : ℕ). first_latest_of n s) c.nodes-nodes.ensures.value in
    subst (λ (x : Labels). AreRounds p ws s x c.begin.new.self.latest.items 0 0) (sym c.begin.ensures.labels)
    (subst (λ (x : Latest). AreRounds p ws s (first_labels_of s) x 0 0) (sym latest) (first-rounds p ws s c.requires.source))

pub returns-in_default-clause-none : goal.returns-in_default-clause-none
returns-in_default-clause-none c =
    let p = c.args.inst.now in
    let ws = c.args.weights.now in
    let s = c.args.source in
    let ls = c.rounds.new.ways.labels.items in
    let la = c.rounds.new.ways.latest.items in
    let limit : c.enough_rounds.result ≡ min c.args.hops (p.nodes - 1) = c.enough_rounds.ensures ∙ ap (λ (n : ℕ). min c.args.hops (n - 1)) c.nodes-nodes.ensures.value in
    let h = subst (IsSearch p ws s ls la) limit c.rounds.ensures.search in
    let none : latest_at la c.args.target.0 ≡ None = sym (get_or_read la c.args.target.0 c.index.result.now (omega (arith, h.ways.count, c.requires.target)) c.index.ensures None) ∙ c.in_default.is in
    none-found p ws s c.args.target ls la c.args.hops c.links-links.ensures.lawful c.requires.source h none

pub read_way-requires-clause-place : goal.read_way-requires-clause-place
read_way-requires-clause-place c =
    let la = c.rounds.new.ways.latest.items in
    let h = c.rounds.ensures.search in
    let some : latest_at la c.args.target.0 ≡ Some c.in-Some.place = sym (get_or_read la c.args.target.0 c.index.result.now (omega (arith, h.ways.count, c.requires.target)) c.index.ensures None) ∙ c.in-Some.is in
    (h.ways.latest c.args.target.0 c.in-Some.place some).within

pub returns-clause-path : goal.returns-clause-path
returns-clause-path c =
    let p = c.args.inst.now in
    let ws = c.args.weights.now in
    let s = c.args.source in
    let t = c.args.target in
    let hops = c.args.hops in
    let b = c.in-Some.place in
    let ls = c.rounds.new.ways.labels.items in
    let la = c.rounds.new.ways.latest.items in
    let limit : c.enough_rounds.result ≡ min hops (p.nodes - 1) = c.enough_rounds.ensures ∙ ap (λ (n : ℕ). min hops (n - 1)) c.nodes-nodes.ensures.value in
    let h = subst (IsSearch p ws s ls la) limit c.rounds.ensures.search in
    let some : latest_at la t.0 ≡ Some b = sym (get_or_read la t.0 c.index.result.now (omega (arith, h.ways.count, c.requires.target)) c.index.ensures None) ∙ c.in-Some.is in
    let label : c.index-2.result.now ≡ label_at ls b = get_or_read ls b c.index-2.result.now (h.ways.latest t.0 b some).within c.index-2.ensures no_label in
    subst (λ (arcs : List ArcId). IsLeastWithin p ws s t hops arcs c.index-2.result.now.length) (sym c.read_way.ensures.arcs)
    (subst (λ (l : Label). IsLeastWithin p ws s t hops (way ls (label_at ls b).steps (label_at ls b)) l.length) (sym label)
    (found p ws s t ls la hops b c.links-links.ensures.lawful c.requires.source h some))
