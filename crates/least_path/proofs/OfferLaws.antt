-- What changes where a label is offered, and where a node is settled.
use Rattle.std.proofs.Common.{◌≡◌, ◌≢◌, ℕ, suc, ◌+◌, ◌<◌, ◌≤◌, ◌⊎◌, inl, inr, true, false, List, length, get_or, Option, Some, None, arith, refl, sym, ◌∙◌, ap, subst}
use Rattle.std.proofs.Math.ListN.{set, length-set}
use Rattle.std.proofs.lemmas.Bool.{ltb-true, ltb-false}
use Rattle.std.proofs.lemmas.List.{get_or-set_same, get_or-set_other, get_or_default}
use Rattle.std.proofs.lemmas.List.Sums.{sum_by-set}
use Rattle.plan_base.specs.declared.ids.NodeId.{NodeId}
use Rattle.plan_base.specs.declared.ids.ArcId.{ArcId}
use Rattle.plan_base.specs.declared.parts.Parts.{Parts}
use Rattle.plan_base.specs.Arcs.{tail_of, head_of}
use Rattle.plan_base.specs.Paths.{arc_at}
use Rattle.least_path.specs.declared.label.Label.{Label}
use Rattle.least_path.specs.declared.label.Stop.{Stop}
use Rattle.least_path.specs.Paths.{Weights, weight_at, IsUsable, IsBelow}
use Rattle.least_path.specs.Labels.{Labels, label_at, is_better, offered, open_one, open_count, IsWanted, GoesOn, IsServed, IsIdle, IsReached, IsLabel, AreLabels, HasAtMost, IsRelaxed, IsSpread}
use Rattle.least_path.proofs.NearestLaws.{decide, same_or_not, below_cases, some_same}

offered-better : (ls : Labels) (v : ℕ) (l : Label) → is_better l (label_at ls v) ≡ true → offered ls v l ≡ set ls v (Some l)
unfolding offered
offered-better ls v l h = rw h refl

offered-worse : (ls : Labels) (v : ℕ) (l : Label) → is_better l (label_at ls v) ≡ false → offered ls v l ≡ ls
unfolding offered
offered-worse ls v l h = rw h refl

-- a label that is better than the known one takes its place
pub offered-taken : (ls : Labels) (v : ℕ) (l : Label) (known : Option Label) → v < length ls → known ≡ get_or ls v known → true ≡ is_better l known → set ls v (Some l) ≡ offered ls v l
offered-taken ls v l known within is h =
    let at : known ≡ label_at ls v = is ∙ get_or_default ls v known None within in
    sym (offered-better ls v l (subst (λ (k : Option Label). is_better l k ≡ true) at (sym h)))

-- a label that is not better changes nothing
pub offered-left : (ls : Labels) (v : ℕ) (l : Label) (known : Option Label) → v < length ls → known ≡ get_or ls v known → false ≡ is_better l known → ls ≡ offered ls v l
offered-left ls v l known within is h =
    let at : known ≡ label_at ls v = is ∙ get_or_default ls v known None within in
    sym (offered-worse ls v l (subst (λ (k : Option Label). is_better l k ≡ false) at (sym h)))

-- a better label is shorter than the known one
pub shorter : (l : Label) (k : Option Label) (m : Label) → is_better l k ≡ true → k ≡ Some m → l.length < m.length
shorter l k m h is = ltb-true l.length m.length (subst (λ (x : Option Label). is_better l x ≡ true) is h)

-- what is known is no longer than the label
record IsNoLonger (k : Option Label) (bound : ℕ) : Type 0 where
  label : Label
  pub is : k ≡ Some label
  within : label.length ≤ bound

no_longer : (l : Label) (k : Option Label) → is_better l k ≡ false → IsNoLonger k l.length
no_longer l None h = absurd (let bad : true ≡ false = h in cc)
no_longer l (Some m) h = record { label = m; is = refl; within = ltb-false l.length m.length h }

-- a node that is not settled counts as open
pub open_one-unsettled : (k : Option Label) → ((m : Label) → k ≡ Some m → m.settled ≡ false) → open_one k ≡ 1
open_one-unsettled None h = refl
open_one-unsettled (Some m) h = rw (h m refl) refl

-- where one label is replaced, each label is the new one or an old one
pub record IsOld (ls : Labels) (v w : ℕ) (m : Label) : Type 0 where
  pub other : w ≢ v
  pub is : label_at ls w ≡ Some m

-- the label at hand is the new one, at the place where it was written
pub record IsNew (v w : ℕ) (l m : Label) : Type 0 where
  pub here : w ≡ v
  pub same : l ≡ m

-- after a label is written, each label is the new one or stood there before
pub new_or_old : (ls : Labels) (v : ℕ) (l : Label) (w : ℕ) (m : Label) → v < length ls → label_at (set ls v (Some l)) w ≡ Some m → IsNew v w l m ⊎ IsOld ls v w m
new_or_old ls v l w m within at = elim (same_or_not w v) [
  | inl here ↦ inl (record { here = here; same = some_same (label_at (set ls v (Some l)) v) l m (get_or-set_same ls v (Some l) None within) (subst (λ (k : ℕ). label_at (set ls v (Some l)) k ≡ Some m) here at) })
  | inr other ↦ inr (record { other = other; is = sym (get_or-set_other ls v w (Some l) None other) ∙ at })
]

-- the labels of other nodes stay
pub kept : (ls : Labels) (v : ℕ) (l : Label) (w : ℕ) (m : Label) → w ≢ v → label_at ls w ≡ Some m → label_at (set ls v (Some l)) w ≡ Some m
kept ls v l w m other at = get_or-set_other ls v w (Some l) None other ∙ at

-- a settled node is not one that is open
pub settled-other : (ls : Labels) (v : ℕ) (w : ℕ) (m : Label) → ((k : Label) → label_at ls v ≡ Some k → k.settled ≡ false) → label_at ls w ≡ Some m → m.settled ≡ true → w ≢ v
settled-other ls v w m open_ at settled here = absurd (let bad : true ≡ false = sym settled ∙ open_ m (subst (λ (k : ℕ). label_at ls k ≡ Some m) here at) in cc)

-- a label that goes on from a settled node still does so when an open node gets a new one
pub reached-kept : (p : Parts) (ws : Weights) (ls : Labels) (v : ℕ) (l : Label) (w : ℕ) (m : Label) → ((k : Label) → label_at ls v ≡ Some k → k.settled ≡ false) → IsReached p ws ls w m → IsReached p ws (set ls v (Some l)) w m
reached-kept p ws ls v l w m open_ r = record {
  usable = r.usable;
  head = r.head;
  parent = r.parent;
  parent_is = kept ls v l (tail_of p m.via).0 r.parent (settled-other ls v (tail_of p m.via).0 r.parent open_ r.parent_is r.parent_settled) r.parent_is;
  parent_settled = r.parent_settled;
  steps = r.steps;
  length_is = r.length_is;
}

-- the head of the arc is open where the label is better
open-head : (p : Parts) (ws : Weights) (limit : Option ℕ) (s t : NodeId) (ls : Labels) (stop : Stop) (arcs : List ArcId) (i : ℕ) (a : ArcId) (l : Label) → IsSpread p ws limit s t ls stop arcs i
    → GoesOn p ws limit ls stop a l → is_better l (label_at ls (head_of p a).0) ≡ true → (m : Label) → label_at ls (head_of p a).0 ≡ Some m → m.settled ≡ false
open-head p ws limit s t ls stop arcs i a l h g better m at = elim (decide m.settled) [
  | inl settled ↦ absurd (let early = h.latest (head_of p a).0 m at settled in let less = shorter l (label_at ls (head_of p a).0) m better at in omega (arith, early, less, g.length_is))
  | inr open_ ↦ open_
]

new-label : (p : Parts) (ws : Weights) (limit : Option ℕ) (s t : NodeId) (ls : Labels) (stop : Stop) (arcs : List ArcId) (i : ℕ) (a : ArcId) (l : Label) → IsSpread p ws limit s t ls stop arcs i → GoesOn p ws limit ls stop a l
    → ((k : Label) → label_at ls (head_of p a).0 ≡ Some k → k.settled ≡ false) → open_count (set ls (head_of p a).0 (Some l)) ≡ open_count ls → IsLabel p ws s (set ls (head_of p a).0 (Some l)) (head_of p a).0 l
new-label p ws limit s t ls stop arcs i a l h g open_ same = record {
  steps_within = omega (arith, h.steps, g.steps, same);
  length_within =
      let old = (h.labels.each stop.node.0 stop.label h.here).length_within in
      let last = g.small in
      let steps : l.steps ≡ stop.label.steps + 1 = g.steps in
      let total : l.length ≡ stop.label.length + weight_at ws a = g.length_is in
      rw steps (omega (arith, old, last, total));
  from_source = λ none. absurd (omega (arith, g.steps, none));
  no_length = λ none. absurd (omega (arith, g.steps, none));
  from_arc = λ some. record {
    usable = subst (IsUsable p ws) (sym g.via) g.usable;
    head = ap (λ (b : ArcId). (head_of p b).0) g.via;
    parent = stop.label;
    parent_is =
        let tail : (tail_of p l.via).0 ≡ stop.node.0 = ap (λ (b : ArcId). (tail_of p b).0) g.via ∙ g.tail in
        subst (λ (k : ℕ). label_at (set ls (head_of p a).0 (Some l)) k ≡ Some stop.label) (sym tail)
        (kept ls (head_of p a).0 l stop.node.0 stop.label (settled-other ls (head_of p a).0 stop.node.0 stop.label open_ h.here h.settled) h.here);
    parent_settled = h.settled;
    steps = omega (arith, g.steps);
    length_is = subst (λ (b : ArcId). l.length ≡ stop.label.length + weight_at ws b) (sym g.via) g.length_is;
  };
}

-- a lawful label stays lawful when another, open node gets a new one
pub old-label : (p : Parts) (ws : Weights) (s : NodeId) (ls : Labels) (v : ℕ) (l : Label) (w : ℕ) (m : Label) → ((k : Label) → label_at ls v ≡ Some k → k.settled ≡ false) → open_count (set ls v (Some l)) ≤ open_count ls → IsLabel p ws s ls w m → IsLabel p ws s (set ls v (Some l)) w m
old-label p ws s ls v l w m open_ fewer old = record {
  steps_within = omega (arith, old.steps_within, fewer);
  length_within = old.length_within;
  from_source = old.from_source;
  no_length = old.no_length;
  from_arc = λ some. reached-kept p ws ls v l w m open_ (old.from_arc some);
}

open_count-offered : (ls : Labels) (v : ℕ) (l : Label) → v < length ls → l.settled ≡ false → ((k : Label) → label_at ls v ≡ Some k → k.settled ≡ false) → open_count (set ls v (Some l)) ≡ open_count ls
open_count-offered ls v l within open_l open_ =
    let change : open_count (set ls v (Some l)) + open_one (label_at ls v) ≡ open_count ls + open_one (Some l) = sum_by-set open_one ls v (Some l) None within in
    let before : open_one (label_at ls v) ≡ 1 = open_one-unsettled (label_at ls v) open_ in
    let after : open_one (Some l) ≡ 1 = open_one-unsettled (Some l) (λ m is. subst (λ (x : Label). x.settled ≡ false) (some_same (Some l) l m refl is) open_l) in
    omega (arith, change, before, after)

-- the labels after one of an open node is replaced by one that is still open
replaced-labels : (p : Parts) (ws : Weights) (s t : NodeId) (ls : Labels) (v : ℕ) (l : Label) → v < length ls → AreLabels p ws s t ls → ((k : Label) → label_at ls v ≡ Some k → k.settled ≡ false) → is_better l (label_at ls v) ≡ true
    → l.settled ≡ false → ((w : ℕ) (m : Label) → label_at ls w ≡ Some m → m.settled ≡ true → m.length ≤ l.length) → open_count (set ls v (Some l)) ≡ open_count ls → IsLabel p ws s (set ls v (Some l)) v l → AreLabels p ws s t (set ls v (Some l))
replaced-labels p ws s t ls v l within h open_ better open_l latest same new =
    let source_other : s.0 ≢ v = λ here. omega (arith, shorter l (label_at ls v) h.source_label better (subst (λ (k : ℕ). label_at ls k ≡ Some h.source_label) here h.source_is), h.source_length) in
    record {
      count = length-set ls v (Some l) ∙ h.count;
      source_label = h.source_label;
      source_is = kept ls v l s.0 h.source_label source_other h.source_is;
      source_length = h.source_length;
      each = λ w m at. elim (new_or_old ls v l w m within at) [
        | inl is ↦ subst (λ (k : ℕ). IsLabel p ws s (set ls v (Some l)) k m) (sym is.here) (subst (IsLabel p ws s (set ls v (Some l)) v) is.same new)
        | inr is ↦ old-label p ws s ls v l w m open_ (omega (arith, same)) (h.each w m is.is)
      ];
      ordered = λ w x m k at_w at_x settled unsettled. elim (new_or_old ls v l w m within at_w) [
        | inl is ↦ absurd (let bad : true ≡ false = sym settled ∙ subst (λ (y : Label). y.settled ≡ false) is.same open_l in cc)
        | inr is ↦ elim (new_or_old ls v l x k within at_x) [
          | inl new_x ↦ subst (λ (y : Label). m.length ≤ y.length) new_x.same (latest w m is.is settled)
          | inr old_x ↦ h.ordered w x m k is.is old_x.is settled unsettled
        ]
      ];
      target_open = λ m at. elim (new_or_old ls v l t.0 m within at) [
        | inl is ↦ subst (λ (y : Label). y.settled ≡ false) is.same open_l
        | inr is ↦ h.target_open m is.is
      ];
    }

-- labels that get shorter stay short enough
at_most-kept : (ls : Labels) (v : ℕ) (l : Label) (w bound : ℕ) → v < length ls → is_better l (label_at ls v) ≡ true → HasAtMost ls w bound → HasAtMost (set ls v (Some l)) w bound
at_most-kept ls v l w bound within better h = elim (same_or_not w v) [
  | inl here ↦
      let less = shorter l (label_at ls v) h.label better (subst (λ (k : ℕ). label_at ls k ≡ Some h.label) here h.is) in
      record { label = l; is = subst (λ (k : ℕ). label_at (set ls v (Some l)) k ≡ Some l) (sym here) (get_or-set_same ls v (Some l) None within); within = omega (arith, less, h.within) }
  | inr other ↦ record { label = h.label; is = kept ls v l w h.label other h.is; within = h.within }
]

-- what is wanted was wanted before the target's label got shorter
wanted-before : (limit : Option ℕ) (t : NodeId) (ls : Labels) (v : ℕ) (l : Label) (n : ℕ) → v < length ls → is_better l (label_at ls v) ≡ true → IsWanted limit t (set ls v (Some l)) n → IsWanted limit t ls n
wanted-before limit t ls v l n within better w = record {
  below = w.below;
  shorter = λ m at. elim (same_or_not t.0 v) [
    | inl here ↦
        let less = shorter l (label_at ls v) m better (subst (λ (k : ℕ). label_at ls k ≡ Some m) here at) in
        let now = w.shorter l (subst (λ (k : ℕ). label_at (set ls v (Some l)) k ≡ Some l) (sym here) (get_or-set_same ls v (Some l) None within)) in
        omega (arith, less, now)
    | inr other ↦ w.shorter m (kept ls v l t.0 m other at)
  ];
}

relaxed-kept : (p : Parts) (ws : Weights) (limit : Option ℕ) (t : NodeId) (ls : Labels) (v : ℕ) (l : Label) (b : ArcId) → v < length ls → is_better l (label_at ls v) ≡ true → l.settled ≡ false → IsRelaxed p ws limit t ls b → IsRelaxed p ws limit t (set ls v (Some l)) b
relaxed-kept p ws limit t ls v l b within better open_l h = λ m at settled wanted. elim (new_or_old ls v l (tail_of p b).0 m within at) [
  | inl is ↦ absurd (let bad : true ≡ false = sym settled ∙ subst (λ (y : Label). y.settled ≡ false) is.same open_l in cc)
  | inr is ↦ at_most-kept ls v l (head_of p b).0 (m.length + weight_at ws b) within better (h m is.is settled (wanted-before limit t ls v l (m.length + weight_at ws b) within better wanted))
]

-- the arc is relaxed where its head has a label that is short enough
relaxed-now : (p : Parts) (ws : Weights) (limit : Option ℕ) (t : NodeId) (ls : Labels) (stop : Stop) (a : ArcId) (bound : ℕ) → (tail_of p a).0 ≡ stop.node.0
    → label_at ls stop.node.0 ≡ Some stop.label → bound ≡ stop.label.length + weight_at ws a → IsServed p limit t ls a bound → IsRelaxed p ws limit t ls a
relaxed-now p ws limit t ls stop a bound tail here is h = λ m at settled.
    let same : stop.label ≡ m = some_same (label_at ls stop.node.0) stop.label m here (subst (λ (k : ℕ). label_at ls k ≡ Some m) tail at) in
    subst (λ (x : Label). IsServed p limit t ls a (x.length + weight_at ws a)) same (subst (IsServed p limit t ls a) is h)

-- where the first arcs of a node are relaxed and the next one is, one arc more is relaxed
pub done-more : (p : Parts) (ws : Weights) (limit : Option ℕ) (t : NodeId) (ls : Labels) (arcs : List ArcId) (i : ℕ) → ((j : ℕ) → j < i → IsUsable p ws (arc_at arcs j) → IsRelaxed p ws limit t ls (arc_at arcs j))
    → (IsUsable p ws (arc_at arcs i) → IsRelaxed p ws limit t ls (arc_at arcs i)) → (j : ℕ) → j < suc i → IsUsable p ws (arc_at arcs j) → IsRelaxed p ws limit t ls (arc_at arcs j)
done-more p ws limit t ls arcs i before now j below = elim (below_cases j i below) [
  | inl early ↦ before j early
  | inr here ↦ subst (λ (k : ℕ). IsUsable p ws (arc_at arcs k) → IsRelaxed p ws limit t ls (arc_at arcs k)) (sym here) now
]

-- a better label is taken
spread-taken : (p : Parts) (ws : Weights) (limit : Option ℕ) (s t : NodeId) (ls : Labels) (stop : Stop) (arcs : List ArcId) (i : ℕ) (a : ArcId) (l : Label) → arc_at arcs i ≡ a
    → IsSpread p ws limit s t ls stop arcs i → GoesOn p ws limit ls stop a l → is_better l (label_at ls (head_of p a).0) ≡ true → IsSpread p ws limit s t (set ls (head_of p a).0 (Some l)) stop arcs (suc i)
spread-taken p ws limit s t ls stop arcs i a l number h g better =
    let v = (head_of p a).0 in
    let open_ = open-head p ws limit s t ls stop arcs i a l h g better in
    let same = open_count-offered ls v l g.head g.settled open_ in
    let here = kept ls v l stop.node.0 stop.label (settled-other ls v stop.node.0 stop.label open_ h.here h.settled) h.here in
    record {
      labels = replaced-labels p ws s t ls v l g.head h.labels open_ better g.settled (λ w m at settled. omega (arith, h.latest w m at settled, g.length_is)) same (new-label p ws limit s t ls stop arcs i a l h g open_ same);
      below = λ w m at. elim (new_or_old ls v l w m g.head at) [
        | inl is ↦ subst (λ (y : Label). IsBelow limit y.length) is.same g.below
        | inr is ↦ h.below w m is.is
      ];
      here = here;
      settled = h.settled;
      latest = λ w m at settled. elim (new_or_old ls v l w m g.head at) [
        | inl is ↦ absurd (let bad : true ≡ false = sym settled ∙ subst (λ (y : Label). y.settled ≡ false) is.same g.settled in cc)
        | inr is ↦ h.latest w m is.is settled
      ];
      steps = omega (arith, h.steps, same);
      others = λ b usable other. relaxed-kept p ws limit t ls v l b g.head better g.settled (h.others b usable other);
      done = done-more p ws limit t (set ls v (Some l)) arcs i (λ j below usable. relaxed-kept p ws limit t ls v l (arc_at arcs j) g.head better g.settled (h.done j below usable))
          (λ usable. subst (IsRelaxed p ws limit t (set ls v (Some l))) (sym number) (relaxed-now p ws limit t (set ls v (Some l)) stop a l.length g.tail here g.length_is (λ wanted. record { label = l; is = get_or-set_same ls v (Some l) None g.head; within = omega arith })));
    }

-- where the arc asks for no change
pub spread-same : (p : Parts) (ws : Weights) (limit : Option ℕ) (s t : NodeId) (ls : Labels) (stop : Stop) (arcs : List ArcId) (i : ℕ) → IsSpread p ws limit s t ls stop arcs i → (IsUsable p ws (arc_at arcs i) → IsRelaxed p ws limit t ls (arc_at arcs i)) → IsSpread p ws limit s t ls stop arcs (suc i)
spread-same p ws limit s t ls stop arcs i h now = record {
  labels = h.labels;
  below = h.below;
  here = h.here;
  settled = h.settled;
  latest = h.latest;
  steps = h.steps;
  others = h.others;
  done = done-more p ws limit t ls arcs i h.done now;
}

spread-left : (p : Parts) (ws : Weights) (limit : Option ℕ) (s t : NodeId) (ls : Labels) (stop : Stop) (arcs : List ArcId) (i : ℕ) (a : ArcId) (l : Label) → arc_at arcs i ≡ a
    → IsSpread p ws limit s t ls stop arcs i → GoesOn p ws limit ls stop a l → is_better l (label_at ls (head_of p a).0) ≡ false → IsSpread p ws limit s t ls stop arcs (suc i)
spread-left p ws limit s t ls stop arcs i a l number h g worse = spread-same p ws limit s t ls stop arcs i h (λ usable.
    let known = no_longer l (label_at ls (head_of p a).0) worse in
    subst (IsRelaxed p ws limit t ls) (sym number) (relaxed-now p ws limit t ls stop a l.length g.tail h.here g.length_is (λ wanted. record { label = known.label; is = known.is; within = known.within })))

-- offering a usable arc's head its new label relaxes that arc and keeps the search right
pub spread-offered : (p : Parts) (ws : Weights) (limit : Option ℕ) (s t : NodeId) (ls : Labels) (stop : Stop) (arcs : List ArcId) (i : ℕ) (a : ArcId) (l : Label)
    → arc_at arcs i ≡ a → IsSpread p ws limit s t ls stop arcs i → GoesOn p ws limit ls stop a l → IsSpread p ws limit s t (offered ls (head_of p a).0 l) stop arcs (suc i)
spread-offered p ws limit s t ls stop arcs i a l number h g = elim (decide (is_better l (label_at ls (head_of p a).0))) [
  | inl better ↦ subst (λ (x : Labels). IsSpread p ws limit s t x stop arcs (suc i)) (sym (offered-better ls (head_of p a).0 l better)) (spread-taken p ws limit s t ls stop arcs i a l number h g better)
  | inr worse ↦ subst (λ (x : Labels). IsSpread p ws limit s t x stop arcs (suc i)) (sym (offered-worse ls (head_of p a).0 l worse)) (spread-left p ws limit s t ls stop arcs i a l number h g worse)
]

-- an offered label leaves as many nodes open
pub count-offered : (p : Parts) (ws : Weights) (limit : Option ℕ) (s t : NodeId) (ls : Labels) (stop : Stop) (arcs : List ArcId) (i : ℕ) (a : ArcId) (l : Label) → IsSpread p ws limit s t ls stop arcs i → GoesOn p ws limit ls stop a l → open_count (offered ls (head_of p a).0 l) ≡ open_count ls
count-offered p ws limit s t ls stop arcs i a l h g = elim (decide (is_better l (label_at ls (head_of p a).0))) [
  | inl better ↦ ap open_count (offered-better ls (head_of p a).0 l better) ∙ open_count-offered ls (head_of p a).0 l g.head g.settled (open-head p ws limit s t ls stop arcs i a l h g better)
  | inr worse ↦ ap open_count (offered-worse ls (head_of p a).0 l worse)
]

-- an arc that asks for no change is relaxed
pub relaxed-idle : (p : Parts) (ws : Weights) (limit : Option ℕ) (s t : NodeId) (ls : Labels) (stop : Stop) (arcs : List ArcId) (i : ℕ) (a : ArcId) → IsSpread p ws limit s t ls stop arcs i → (tail_of p a).0 ≡ stop.node.0 → IsIdle p ws limit t ls stop a → IsUsable p ws a → IsRelaxed p ws limit t ls a
relaxed-idle p ws limit s t ls stop arcs i a h tail idle usable = relaxed-now p ws limit t ls stop a (stop.label.length + weight_at ws a) tail h.here refl (idle usable)

-- an arc asks for no change where its head is no farther than its tail
pub near-idle : (p : Parts) (ws : Weights) (limit : Option ℕ) (t : NodeId) (ls : Labels) (stop : Stop) (a : ArcId) → is_better stop.label (label_at ls (head_of p a).0) ≡ false → IsIdle p ws limit t ls stop a
near-idle p ws limit t ls stop a worse = λ usable wanted.
    let known = no_longer stop.label (label_at ls (head_of p a).0) worse in
    record { label = known.label; is = known.is; within = omega (arith, known.within) }

-- the place of the next arc, as the loop counts it
pub spread-next : (p : Parts) (ws : Weights) (limit : Option ℕ) (s t : NodeId) (ls : Labels) (stop : Stop) (arcs : List ArcId) (i : ℕ) → IsSpread p ws limit s t ls stop arcs (suc i) → IsSpread p ws limit s t ls stop arcs (i + 1)
spread-next p ws limit s t ls stop arcs i h =
    let e : suc i ≡ i + 1 = omega arith in
    subst (λ (k : ℕ). IsSpread p ws limit s t ls stop arcs k) e h
