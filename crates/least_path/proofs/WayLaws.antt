-- The way of a label is a simple path of usable arcs, and its weight is the label's length.
use Rattle.std.proofs.Common.{◌≡◌, ℕ, zero, suc, ◌+◌, ◌<◌, ◌≤◌, inl, inr, List, [], ◌∷◌, ◌++◌, length, Option, Some, arith, refl, sym, ◌∙◌, ap, subst, length-append, reverse, append_assoc}
use Rattle.std.proofs.lemmas.List.{get_or_append_left, reverse-append}
use Rattle.std.proofs.Math.Seq.{get_or-append_seam}
use Rattle.std.proofs.lemmas.List.Sums.{sum_by-append}
use Rattle.std.specs.Option.{unwrap_or}
use Rattle.plan_base.specs.declared.ids.NodeId.{NodeId}
use Rattle.plan_base.specs.declared.ids.ArcId.{ArcId}
use Rattle.plan_base.specs.declared.parts.Parts.{Parts}
use Rattle.plan_base.specs.Arcs.{tail_of, head_of, no_arc}
use Rattle.plan_base.specs.Paths.{arc_at, node_at}
use Rattle.least_path.specs.declared.label.Label.{Label}
use Rattle.least_path.specs.Paths.{Weights, weight_at, weight_of, IsUsable, IsUsablePath}
use Rattle.least_path.specs.Labels.{Labels, label_at, no_label, way, IsReached, AreLabels}
use Rattle.least_path.proofs.NearestLaws.{below_cases, some_same}

-- the way goes on from that of the label's parent
pub way-step : (p : Parts) (ws : Weights) (ls : Labels) (v : ℕ) (l : Label) (r : IsReached p ws ls v l) → way p ls l.steps l ≡ way p ls r.parent.steps r.parent ++ l.via ∷ []
way-step p ws ls v l r =
    ap (λ (k : ℕ). way p ls k l) r.steps ∙
    ap (λ (x : Option Label). way p ls r.parent.steps (unwrap_or x no_label) ++ l.via ∷ []) r.parent_is

-- the node has a label of so many steps
record HasSteps (ls : Labels) (v steps : ℕ) : Type 0 where
  label : Label
  is : label_at ls v ≡ Some label
  steps_are : label.steps ≡ steps

-- arcs that are a way to the node, as its label tells
record IsWay (p : Parts) (ws : Weights) (s : NodeId) (ls : Labels) (v : ℕ) (l : Label) (arcs : List ArcId) : Type 0 where
  size : length arcs ≡ l.steps
  usable : (i : ℕ) → i < length arcs → IsUsable p ws (arc_at arcs i)
  goes_on : (i : ℕ) → i < length arcs → (tail_of p (arc_at arcs i)).0 ≡ node_at p s arcs i
  steps : (i : ℕ) → i ≤ length arcs → HasSteps ls (node_at p s arcs i) i
  ends : node_at p s arcs (length arcs) ≡ v
  weight : weight_of ws arcs ≡ l.length

-- the nodes of a longer way
node_at-longer : (p : Parts) (s : NodeId) (arcs : List ArcId) (a : ArcId) (i : ℕ) → i ≤ length arcs → node_at p s (arcs ++ a ∷ []) i ≡ node_at p s arcs i
node_at-longer p s arcs a zero within = refl
node_at-longer p s arcs a (suc i) within = ap (λ (b : ArcId). (head_of p b).0) (get_or_append_left arcs (a ∷ []) no_arc i (omega arith))

arc_at-last : (arcs : List ArcId) (a : ArcId) → arc_at (arcs ++ a ∷ []) (length arcs) ≡ a
arc_at-last arcs a = get_or-append_seam arcs a [] no_arc

longer : (p : Parts) (ws : Weights) (s : NodeId) (ls : Labels) (v : ℕ) (l : Label) (r : IsReached p ws ls v l) (arcs : List ArcId) → label_at ls v ≡ Some l → IsWay p ws s ls (tail_of p l.via).0 r.parent arcs → IsWay p ws s ls v l (arcs ++ l.via ∷ [])
longer p ws s ls v l r arcs at h =
    let size : length (arcs ++ l.via ∷ []) ≡ suc (length arcs) = simp length-append (omega arith) in
    let end : node_at p s (arcs ++ l.via ∷ []) (suc (length arcs)) ≡ v = ap (λ (b : ArcId). (head_of p b).0) (arc_at-last arcs l.via) ∙ r.head in
    record {
      size = omega (arith, size, h.size, r.steps);
      usable = λ i within. elim (below_cases i (length arcs) (omega (arith, size))) [
        | inl before ↦ subst (IsUsable p ws) (sym (get_or_append_left arcs (l.via ∷ []) no_arc i before)) (h.usable i before)
        | inr last ↦ subst (IsUsable p ws) (sym (ap (arc_at (arcs ++ l.via ∷ [])) last ∙ arc_at-last arcs l.via)) r.usable
      ];
      goes_on = λ i within. elim (below_cases i (length arcs) (omega (arith, size))) [
        | inl before ↦ ap (λ (b : ArcId). (tail_of p b).0) (get_or_append_left arcs (l.via ∷ []) no_arc i before) ∙ h.goes_on i before ∙ sym (node_at-longer p s arcs l.via i (omega arith))
        | inr last ↦ ap (λ (b : ArcId). (tail_of p b).0) (ap (arc_at (arcs ++ l.via ∷ [])) last ∙ arc_at-last arcs l.via) ∙ sym h.ends ∙ sym (node_at-longer p s arcs l.via (length arcs) (omega arith)) ∙ ap (node_at p s (arcs ++ l.via ∷ [])) (sym last)
      ];
      steps = λ i within. elim (below_cases i (suc (length arcs)) (omega (arith, size))) [
        | inl before ↦ subst (λ (w : ℕ). HasSteps ls w i) (sym (node_at-longer p s arcs l.via i (omega arith))) (h.steps i (omega arith))
        | inr last ↦ subst (λ (w : ℕ). HasSteps ls w i) (sym (ap (node_at p s (arcs ++ l.via ∷ [])) last ∙ end)) (record { label = l; is = at; steps_are = omega (arith, r.steps, h.size, last) })
      ];
      ends = ap (node_at p s (arcs ++ l.via ∷ [])) size ∙ end;
      weight =
          let sum : weight_of ws (arcs ++ l.via ∷ []) ≡ weight_of ws arcs + weight_of ws (l.via ∷ []) = sum_by-append (λ (a : ArcId). weight_at ws a) arcs (l.via ∷ []) in
          omega (arith, sum, h.weight, r.length_is);
    }

is-way : (p : Parts) (ws : Weights) (s t : NodeId) (ls : Labels) → AreLabels p ws s t ls → (k v : ℕ) (l : Label) → label_at ls v ≡ Some l → l.steps ≡ k → IsWay p ws s ls v l (way p ls k l)
is-way p ws s t ls h zero v l at is =
    let from = (h.each v l at).from_source is in
    record {
      size = sym is;
      usable = λ i within. absurd (omega arith);
      goes_on = λ i within. absurd (omega arith);
      steps = λ i within.
          let none : i ≡ 0 = omega arith in
          subst (λ (j : ℕ). HasSteps ls (node_at p s [] j) j) (sym none) (record { label = l; is = subst (λ (w : ℕ). label_at ls w ≡ Some l) from at; steps_are = is });
      ends = sym from;
      weight = sym ((h.each v l at).no_length is);
    }
is-way p ws s t ls h (suc k) v l at is =
    let r = (h.each v l at).from_arc (λ none. omega (arith, none, is)) in
    let parent_steps : r.parent.steps ≡ k = omega (arith, r.steps, is) in
    let before = is-way p ws s t ls h k (tail_of p l.via).0 r.parent r.parent_is parent_steps in
    let parent_is : r.parent ≡ unwrap_or (label_at ls (tail_of p l.via).0) no_label = sym (ap (λ (x : Option Label). unwrap_or x no_label) r.parent_is) in
    subst (λ (x : Label). IsWay p ws s ls v l (way p ls k x ++ l.via ∷ [])) parent_is (longer p ws s ls v l r (way p ls k r.parent) at before)

same_steps : (ls : Labels) (v i j : ℕ) → HasSteps ls v i → HasSteps ls v j → i ≡ j
same_steps ls v i j a b =
    let same = ap (λ (l : Label). l.steps) (some_same (label_at ls v) a.label b.label a.is b.is) in
    omega (arith, same, a.steps_are, b.steps_are)

-- the way of a node's label
pub record IsPathOf (p : Parts) (ws : Weights) (s t : NodeId) (l : Label) (arcs : List ArcId) : Type 0 where
  pub path : IsUsablePath p ws s t arcs
  pub weight : weight_of ws arcs ≡ l.length

-- the way of a label is a path to its node, with the label's length as weight
pub way-path : (p : Parts) (ws : Weights) (s outside t : NodeId) (ls : Labels) (v : ℕ) (l : Label) → AreLabels p ws s outside ls → label_at ls v ≡ Some l → v ≡ t.0 → IsPathOf p ws s t l (way p ls l.steps l)
way-path p ws s outside t ls v l h at target =
    let arcs = way p ls l.steps l in
    let w = is-way p ws s outside ls h l.steps v l at refl in
    record {
      path = record {
        simple = record {
          are_arcs = λ i within. (w.usable i within).is_an_arc;
          goes_on = w.goes_on;
          no_node_twice = λ i j before within same.
              let steps_j = subst (λ (n : ℕ). HasSteps ls n j) (sym same) (w.steps j within) in
              omega (arith, before, same_steps ls (node_at p s arcs i) i j (w.steps i (omega arith)) steps_j);
          ends_at_target = w.ends ∙ target;
        };
        usable = w.usable;
      };
      weight = w.weight;
    }

-- reading the way back from its last arc
pub record IsReadBack (p : Parts) (ls : Labels) (last here : Label) (arcs : List ArcId) : Type 0 where
  pub node : ℕ
  pub is : label_at ls node ≡ Some here
  pub way_is : way p ls last.steps last ≡ way p ls here.steps here ++ reverse arcs

-- one arc more of the way back
pub back-more : (p : Parts) (ws : Weights) (s t : NodeId) (ls : Labels) (last here next : Label) (arcs : List ArcId) → AreLabels p ws s t ls → 0 < here.steps → IsReadBack p ls last here arcs → label_at ls (tail_of p here.via).0 ≡ Some next → IsReadBack p ls last next (arcs ++ here.via ∷ [])
back-more p ws s t ls last here next arcs h some b at =
    let r = (h.each b.node here b.is).from_arc (λ none. omega (arith, none, some)) in
    let same : r.parent ≡ next = some_same (label_at ls (tail_of p here.via).0) r.parent next r.parent_is at in
    record {
      node = (tail_of p here.via).0;
      is = at;
      way_is =
          b.way_is ∙
          ap (λ (xs : List ArcId). xs ++ reverse arcs) (way-step p ws ls b.node here r) ∙
          append_assoc (way p ls r.parent.steps r.parent) (here.via ∷ []) (reverse arcs) ∙
          ap (λ (x : Label). way p ls x.steps x ++ (here.via ∷ [] ++ reverse arcs)) same ∙
          ap (λ (xs : List ArcId). way p ls next.steps next ++ xs) (sym (reverse-append arcs (here.via ∷ [])));
    }

-- the arcs that were read to the source are the way in reverse
pub back-end : (p : Parts) (ls : Labels) (last here : Label) (arcs : List ArcId) → here.steps ≡ 0 → IsReadBack p ls last here arcs → reverse arcs ≡ way p ls last.steps last
back-end p ls last here arcs none b = sym (b.way_is ∙ ap (λ (k : ℕ). way p ls k here ++ reverse arcs) none)

-- what reading back asks for
pub back-reached : (p : Parts) (ws : Weights) (s t : NodeId) (ls : Labels) (last here : Label) (arcs : List ArcId) → AreLabels p ws s t ls → 0 < here.steps → (b : IsReadBack p ls last here arcs) → IsReached p ws ls b.node here
back-reached p ws s t ls last here arcs h some b = (h.each b.node here b.is).from_arc (λ none. omega (arith, none, some))
