-- The way of a label is a simple path of usable arcs, and its weight is the label's length.
use Rattle.std.proofs.Common.{◌≡◌, ◌≢◌, ℕ, zero, suc, ◌+◌, ◌<◌, ◌≤◌, inl, inr, List, [], ◌∷◌, ◌++◌, length, refl, sym, ◌∙◌, ap, subst, arith, length-append, reverse, append_assoc}
use Rattle.std.proofs.lemmas.List.{get_or_append_left, reverse-append}
use Rattle.std.proofs.Math.Seq.{get_or-append_seam}
use Rattle.std.proofs.lemmas.List.Sums.{sum_by-append}
use Rattle.plan_base.specs.declared.ids.NodeId.{NodeId}
use Rattle.plan_base.specs.declared.ids.ArcId.{ArcId}
use Rattle.plan_base.specs.declared.parts.Parts.{Parts}
use Rattle.plan_base.specs.Arcs.{tail_of, head_of, no_arc}
use Rattle.plan_base.specs.Paths.{arc_at, node_at}
use Rattle.least_path.specs.Paths.{Weights, weight_at, weight_of, IsUsable, IsUsablePath}
use Rattle.limited_path.specs.declared.label.Label.{Label}
use Rattle.limited_path.specs.Labels.{Labels, Latest, label_at, way, IsReached, AreWays}
use Rattle.limited_path.proofs.WrittenLaws.{below_cases}

-- a label of the node stands at this place or before it, and is no longer than the one there
record IsBefore (ls : Labels) (j v : ℕ) : Type 0 where
  place : ℕ
  upto : place ≤ j
  node_is : (label_at ls place).node.0 ≡ v
  no_longer : (label_at ls place).length ≤ (label_at ls j).length

-- arcs that are the way of the label at place j
record IsWay (p : Parts) (ws : Weights) (s : NodeId) (ls : Labels) (j : ℕ) (arcs : List ArcId) : Type 0 where
  size : length arcs ≡ (label_at ls j).steps
  usable : (i : ℕ) → i < length arcs → IsUsable p ws (arc_at arcs i)
  goes_on : (i : ℕ) → i < length arcs → (tail_of p (arc_at arcs i)).0 ≡ node_at p s arcs i
  earlier : (i : ℕ) → i ≤ length arcs → IsBefore ls j (node_at p s arcs i)
  once : (i m : ℕ) → i < m → m ≤ length arcs → node_at p s arcs i ≢ node_at p s arcs m
  ends : node_at p s arcs (length arcs) ≡ (label_at ls j).node.0
  weight : weight_of ws arcs ≡ (label_at ls j).length

-- the nodes of a longer way
node_at-longer : (p : Parts) (s : NodeId) (arcs : List ArcId) (a : ArcId) (i : ℕ) → i ≤ length arcs → node_at p s (arcs ++ a ∷ []) i ≡ node_at p s arcs i
node_at-longer p s arcs a zero within = refl
node_at-longer p s arcs a (suc i) within = ap (λ (b : ArcId). (head_of p b).0) (get_or_append_left arcs (a ∷ []) no_arc i (omega arith))

arc_at-last : (arcs : List ArcId) (a : ArcId) → arc_at (arcs ++ a ∷ []) (length arcs) ≡ a
arc_at-last arcs a = get_or-append_seam arcs a [] no_arc

module _ (p : Parts) (ws : Weights) (s : NodeId) (ls : Labels) (la : Latest) (j : ℕ) (h : AreWays p ws s ls la) (within : j < length ls) where
  abbrev here : Label
  here = label_at ls j

  module _ (r : IsReached p ws ls j here) (arcs : List ArcId) (w : IsWay p ws s ls here.parent arcs) where
    abbrev more : List ArcId
    more = arcs ++ here.via ∷ []

    size-more : length more ≡ suc (length arcs)
    size-more = simp length-append (omega arith)

    end-more : node_at p s more (suc (length arcs)) ≡ here.node.0
    end-more = ap (λ (b : ArcId). (head_of p b).0) (arc_at-last arcs here.via) ∙ r.head

    before-more : (v : ℕ) → IsBefore ls here.parent v → IsBefore ls j v
    before-more v b = record { place = b.place; upto = omega (arith, b.upto, r.earlier); node_is = b.node_is; no_longer = omega (arith, b.no_longer, r.length_is) }

    -- the label's node is new: of two labels of one node the later one is shorter
    new-node : (i : ℕ) → i ≤ length arcs → node_at p s arcs i ≢ here.node.0
    new-node i upto same =
        let b = w.earlier i upto in
        let shorter = h.shorter b.place j (omega (arith, b.upto, r.earlier)) within (b.node_is ∙ same) in
        omega (arith, shorter, b.no_longer, r.length_is)

    once-more : (i m : ℕ) → i < m → m ≤ length more → node_at p s more i ≢ node_at p s more m
    once-more i m before upto same = elim (below_cases m (suc (length arcs)) (omega (arith, upto, size-more))) [
      | inl inside ↦ w.once i m before (omega (arith, inside)) (sym (node_at-longer p s arcs here.via i (omega (arith, before, inside))) ∙ same ∙ node_at-longer p s arcs here.via m (omega (arith, inside)))
      | inr last ↦ new-node i (omega (arith, before, last)) (sym (node_at-longer p s arcs here.via i (omega (arith, before, last))) ∙ same ∙ ap (node_at p s more) last ∙ end-more)
    ]

    way-more : IsWay p ws s ls j more
    way-more = record {
      size = omega (arith, size-more, w.size, r.steps);
      usable = λ i below. elim (below_cases i (length arcs) (omega (arith, below, size-more))) [
        | inl before ↦ subst (IsUsable p ws) (sym (get_or_append_left arcs (here.via ∷ []) no_arc i before)) (w.usable i before)
        | inr last ↦ subst (IsUsable p ws) (sym (ap (arc_at more) last ∙ arc_at-last arcs here.via)) r.usable
      ];
      goes_on = λ i below. elim (below_cases i (length arcs) (omega (arith, below, size-more))) [
        | inl before ↦ ap (λ (b : ArcId). (tail_of p b).0) (get_or_append_left arcs (here.via ∷ []) no_arc i before) ∙ w.goes_on i before ∙ sym (node_at-longer p s arcs here.via i (omega (arith, before)))
        | inr last ↦ ap (λ (b : ArcId). (tail_of p b).0) (ap (arc_at more) last ∙ arc_at-last arcs here.via) ∙ r.tail ∙ sym w.ends ∙ sym (node_at-longer p s arcs here.via (length arcs) (omega arith)) ∙ ap (node_at p s more) (sym last)
      ];
      earlier = λ i upto. elim (below_cases i (suc (length arcs)) (omega (arith, upto, size-more))) [
        | inl inside ↦ subst (λ (v : ℕ). IsBefore ls j v) (sym (node_at-longer p s arcs here.via i (omega (arith, inside)))) (before-more (node_at p s arcs i) (w.earlier i (omega (arith, inside))))
        | inr last ↦ subst (λ (v : ℕ). IsBefore ls j v) (sym (ap (node_at p s more) last ∙ end-more)) (record { place = j; upto = omega arith; node_is = refl; no_longer = omega arith })
      ];
      once = once-more;
      ends = ap (node_at p s more) size-more ∙ end-more;
      weight =
          let sum : weight_of ws more ≡ weight_of ws arcs + weight_of ws (here.via ∷ []) = sum_by-append (λ (a : ArcId). weight_at ws a) arcs (here.via ∷ []) in
          omega (arith, sum, w.weight, r.length_is);
    }

  way-none : here.steps ≡ 0 → IsWay p ws s ls j []
  way-none none =
      let l = h.each j within in
      record {
        size = sym none;
        usable = λ i below. absurd (omega (arith, below));
        goes_on = λ i below. absurd (omega (arith, below));
        earlier = λ i upto.
            let first : i ≡ 0 = omega (arith, upto) in
            subst (λ (x : ℕ). IsBefore ls j (node_at p s [] x)) (sym first) (record { place = j; upto = omega arith; node_is = l.from_source none; no_longer = omega arith });
        once = λ i m before upto. absurd (omega (arith, before, upto));
        ends = sym (l.from_source none);
        weight = sym (l.no_length none);
      }

is-way : (p : Parts) (ws : Weights) (s : NodeId) (ls : Labels) (la : Latest) → AreWays p ws s ls la → (k j : ℕ) → j < length ls → (label_at ls j).steps ≡ k → IsWay p ws s ls j (way ls k (label_at ls j))
is-way p ws s ls la h zero j within is = way-none p ws s ls la j h within is
is-way p ws s ls la h (suc k) j within is =
    let r = (h.each j within).from_arc (λ none. omega (arith, none, is)) in
    let parent = (label_at ls j).parent in
    way-more p ws s ls la j h within r (way ls k (label_at ls parent)) (is-way p ws s ls la h k parent (omega (arith, r.earlier, within)) (omega (arith, r.steps, is)))

-- the way of the label at place j, as a path to the target
pub record IsPathOf (p : Parts) (ws : Weights) (s t : NodeId) (l : Label) (arcs : List ArcId) : Type 0 where
  pub path : IsUsablePath p ws s t arcs
  pub size : length arcs ≡ l.steps
  pub weight : weight_of ws arcs ≡ l.length

-- the way of a label is a path to its node, with the label's length as weight
pub way-path : (p : Parts) (ws : Weights) (s t : NodeId) (ls : Labels) (la : Latest) (j : ℕ) → AreWays p ws s ls la → j < length ls → (label_at ls j).node.0 ≡ t.0 → IsPathOf p ws s t (label_at ls j) (way ls (label_at ls j).steps (label_at ls j))
way-path p ws s t ls la j h within target =
    let w = is-way p ws s ls la h (label_at ls j).steps j within refl in
    record {
      path = record {
        simple = record {
          are_arcs = λ i below. (w.usable i below).is_an_arc;
          goes_on = w.goes_on;
          no_node_twice = w.once;
          ends_at_target = w.ends ∙ target;
        };
        usable = w.usable;
      };
      size = w.size;
      weight = w.weight;
    }

-- reading the way back from its last arc
pub record IsReadBack (ls : Labels) (last here : Label) (arcs : List ArcId) : Type 0 where
  pub place : ℕ
  pub within : place < length ls
  pub is : here ≡ label_at ls place
  pub count : length arcs + here.steps ≡ last.steps
  pub way_is : way ls last.steps last ≡ way ls here.steps here ++ reverse arcs

-- the label that is read goes on from an earlier one
pub back-reached : (p : Parts) (ws : Weights) (s : NodeId) (ls : Labels) (la : Latest) (last here : Label) (arcs : List ArcId) → AreWays p ws s ls la → 0 < here.steps → (b : IsReadBack ls last here arcs) → IsReached p ws ls b.place here
back-reached p ws s ls la last here arcs h some b =
    subst (λ (x : Label). IsReached p ws ls b.place x) (sym b.is) ((h.each b.place b.within).from_arc (λ none. omega (arith, none, some, ap (λ (x : Label). x.steps) b.is)))

-- one arc more of the way back
pub back-more : (p : Parts) (ws : Weights) (s : NodeId) (ls : Labels) (la : Latest) (last here : Label) (arcs : List ArcId) → AreWays p ws s ls la → 0 < here.steps → IsReadBack ls last here arcs → IsReadBack ls last (label_at ls here.parent) (arcs ++ here.via ∷ [])
back-more p ws s ls la last here arcs h some b =
    let r = back-reached p ws s ls la last here arcs h some b in
    let before = label_at ls here.parent in
    record {
      place = here.parent;
      within = omega (arith, r.earlier, b.within);
      is = refl;
      count =
          let longer : length (arcs ++ here.via ∷ []) ≡ suc (length arcs) = simp length-append (omega arith) in
          omega (arith, longer, b.count, r.steps);
      way_is =
          b.way_is ∙
          ap (λ (k : ℕ). way ls k here ++ reverse arcs) r.steps ∙
          append_assoc (way ls before.steps before) (here.via ∷ []) (reverse arcs) ∙
          ap (λ (xs : List ArcId). way ls before.steps before ++ xs) (sym (reverse-append arcs (here.via ∷ [])));
    }

-- the arcs that were read to the source are the way in reverse
pub back-end : (ls : Labels) (last here : Label) (arcs : List ArcId) → here.steps ≡ 0 → IsReadBack ls last here arcs → reverse arcs ≡ way ls last.steps last
back-end ls last here arcs none b = sym (b.way_is ∙ ap (λ (k : ℕ). way ls k here ++ reverse arcs) none)
