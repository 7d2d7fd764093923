-- What a round has offered so far.
use Rattle.std.proofs.Common.{◌≡◌, ℕ, ◌+◌, ◌<◌, ◌≤◌, ◌⊎◌, inl, inr, Bool, true, false, List, length, slice_index, Option, Some, None, IsTrue, nat_le, refl, sym, ap, subst, ◌∙◌, arith}
use Rattle.std.proofs.Math.ListN.{set, length-set}
use Rattle.std.proofs.lemmas.Bool.{cases_eq, cases_Bool, leb-true, leb-false}
use Rattle.std.proofs.lemmas.List.{get_or-set_same, get_or-set_other}
use Rattle.plan_base.specs.declared.ids.ArcId.{ArcId}
use Rattle.plan_base.specs.declared.parts.Parts.{Parts}
use Rattle.plan_base.specs.Arcs.{is_arc, tail_of, head_of}
use Rattle.plan_base.specs.Places.{place_of}
use Rattle.plan_base.specs.Paths.{arc_at}
use Rattle.plan_base.specs.Leaving.{AreLeaving}
use Rattle.verifier_paths.specs.Labels.{label_at, lower_of, offered_to, IsAtMost, IsRelaxed, IsAlong, AreOffered, Leaves, LeavesBelow, HasOffered}

-- ---- prices and bounds

-- the label tells a price, and it is at most the bound
pub record HasAtMost (label : Option ℕ) (bound : ℕ) : Type 0 where
  pub price : ℕ
  pub is : label ≡ Some price
  pub within : price ≤ bound

-- a label that is at most a bound tells a price
pub known : (label : Option ℕ) (bound : ℕ) → IsAtMost label bound → HasAtMost label bound
known None bound h = absurd h
known (Some price) bound h = record { price = price; is = refl; within = h }

-- a price that is at most the bound makes its label so
pub at_most : (label : Option ℕ) (price bound : ℕ) → label ≡ Some price → price ≤ bound → IsAtMost label bound
at_most label price bound is within = subst (λ (x : Option ℕ). IsAtMost x bound) (sym is) within

-- a label that is at most a bound is at most each larger one
pub at_most-le : (label : Option ℕ) (bound more : ℕ) → IsAtMost label bound → bound ≤ more → IsAtMost label more
at_most-le None bound more h le = absurd h
at_most-le (Some price) bound more h le = omega (arith, h, le)

lower-below : (label : Option ℕ) (offered bound : ℕ) → IsAtMost label bound → IsAtMost (lower_of label offered) bound
lower-below None offered bound h = absurd h
lower-below (Some price) offered bound h = elim (cases_Bool (nat_le price offered)) [
  | inl less ↦ rw less h
  | inr more ↦ rw more (let above = leb-false price offered more in omega (arith, above, h))
]

lower-offered : (label : Option ℕ) (offered : ℕ) → IsAtMost (lower_of label offered) offered
lower-offered None offered = omega arith
lower-offered (Some price) offered = elim (cases_Bool (nat_le price offered)) [
  | inl less ↦ rw less (leb-true price offered less)
  | inr more ↦ rw more (omega arith)
]

lower-from : (label : Option ℕ) (offered price : ℕ) → lower_of label offered ≡ Some price → (label ≡ Some price) ⊎ (offered ≡ price)
lower-from None offered price is = inr cc
lower-from (Some old) offered price is = elim (cases_Bool (nat_le old offered)) [
  | inl less ↦ inl (rw less at is)
  | inr more ↦ inr (let same : Some offered ≡ Some price = rw more at is in cc)
]

-- ---- a round so far

-- with no arc to offer, labels stay as they are
pub offered-none : (p : Parts) (takes : ArcId → Bool) (prices : List ℕ) (old before : List (Option ℕ)) (kind : ArcId → Type 0) → ((a : ArcId) → kind a → ⊥) → AreOffered p takes prices old kind before before
offered-none p takes prices old before kind none = record {
  count = refl;
  from = λ v price is. inl is;
  kept = λ v bound h. h;
  offered = λ a price of_kind. absurd (none a of_kind);
}

-- of the numbers below the next one, each is before the last or the last
pub before_or_at : (i n : ℕ) → i < n + 1 → (i < n) ⊎ (i ≡ n)
before_or_at i n below = grind arith

-- the arc of a number
abbrev pub arc_of : ℕ → ArcId
arc_of n = record { 0 = n }

-- an arc that offers nothing
offered-same : (p : Parts) (takes : ArcId → Bool) (prices : List ℕ) (old : List (Option ℕ)) (kind more : ArcId → Type 0) (b : ArcId) (before new : List (Option ℕ))
    → ((a : ArcId) → more a → kind a ⊎ (a ≡ b)) → ((price : ℕ) → IsTrue (takes b) → label_at old (tail_of p b).0 ≡ Some price → ⊥)
    → AreOffered p takes prices old kind before new → AreOffered p takes prices old more before new
offered-same p takes prices old kind more b before new parts nothing h = record {
  count = h.count;
  from = h.from;
  kept = h.kept;
  offered = λ a price of_more taken tail. elim (parts a of_more) [
    | inl of_kind ↦ h.offered a price of_kind taken tail
    | inr is ↦ absurd (nothing price (subst (λ (x : ArcId). IsTrue (takes x)) is taken) (subst (λ (x : ArcId). label_at old (tail_of p x).0 ≡ Some price) is tail))
  ];
}

-- where one price is lowered, each is at most what it was
lowered : (new : List (Option ℕ)) (head offer v bound : ℕ) → head < length new → IsAtMost (label_at new v) bound → IsAtMost (label_at (set new head (lower_of (label_at new head) offer)) v) bound
lowered new head offer v bound within h = elim (cases_eq v head) [
  | inl here ↦ (
      let at : label_at (set new head (lower_of (label_at new head) offer)) v ≡ lower_of (label_at new head) offer = ap (label_at (set new head (lower_of (label_at new head) offer))) here ∙ get_or-set_same new head (lower_of (label_at new head) offer) None within in
      let low = lower-below (label_at new head) offer bound (subst (λ (w : ℕ). IsAtMost (label_at new w) bound) here h) in
      subst (λ (x : Option ℕ). IsAtMost x bound) (sym at) low)
  | inr other ↦ subst (λ (x : Option ℕ). IsAtMost x bound) (sym (get_or-set_other new head v (lower_of (label_at new head) offer) None other)) h
]

-- an arc that offers a price to its head
offered-new : (p : Parts) (takes : ArcId → Bool) (prices : List ℕ) (old : List (Option ℕ)) (kind more : ArcId → Type 0) (b : ArcId) (price : ℕ) (before new : List (Option ℕ))
    → ((a : ArcId) → more a → kind a ⊎ (a ≡ b)) → IsTrue (takes b) → label_at old (tail_of p b).0 ≡ Some price → (head_of p b).0 < length new
    → AreOffered p takes prices old kind before new → AreOffered p takes prices old more before (offered_to p prices b (Some price) new)
offered-new p takes prices old kind more b price before new parts taken tail within h = record {
  count = length-set new head lower ∙ h.count;
  from = from;
  kept = λ v bound low. lowered new head offer v bound within (h.kept v bound low);
  offered = λ a q of_more a_taken a_tail. elim (parts a of_more) [
    | inl of_kind ↦ lowered new head offer (head_of p a).0 _ within (h.offered a q of_kind a_taken a_tail)
    | inr is ↦ at_here a q is a_tail
  ];
}
  where
    head : ℕ
    head = (head_of p b).0

    offer : ℕ
    offer = price + slice_index prices (place_of p b)

    lower : Option ℕ
    lower = lower_of (label_at new head) offer

    at_head : label_at (set new head lower) head ≡ lower
    at_head = get_or-set_same new head lower None within

    from : (v q : ℕ) → label_at (set new head lower) v ≡ Some q → (label_at before v ≡ Some q) ⊎ IsAlong p takes prices old v q
    from v q is = elim (cases_eq v head) [
      | inl here ↦ elim (lower-from (label_at new head) offer q (sym at_head ∙ ap (label_at (set new head lower)) (sym here) ∙ is)) [
        | inl was ↦ h.from v q (ap (label_at new) here ∙ was)
        | inr sum ↦ inr (record { arc = b; taken = taken; leads = sym here; before = price; tail = tail; sum = sum })
      ]
      | inr other ↦ h.from v q (sym (get_or-set_other new head v lower None other) ∙ is)
    ]

    at_here : (a : ArcId) (q : ℕ) → a ≡ b → label_at old (tail_of p a).0 ≡ Some q → IsAtMost (label_at (set new head lower) (head_of p a).0) (q + slice_index prices (place_of p a))
    at_here a q is a_tail =
        let same : price ≡ q = (let both : Some price ≡ Some q = sym tail ∙ ap (λ (x : ArcId). label_at old (tail_of p x).0) (sym is) ∙ a_tail in cc) in
        let low : IsAtMost (label_at (set new head lower) head) offer = subst (λ (x : Option ℕ). IsAtMost x offer) (sym at_head) (lower-offered (label_at new head) offer) in
        subst (λ (x : ArcId). IsAtMost (label_at (set new head lower) (head_of p x).0) (q + slice_index prices (place_of p x))) (sym is)
        (subst (λ (n : ℕ). IsAtMost (label_at (set new head lower) head) (n + slice_index prices (place_of p b))) same low)

by_tail : (p : Parts) (takes : ArcId → Bool) (prices : List ℕ) (old : List (Option ℕ)) (kind more : ArcId → Type 0) (b : ArcId) (before new : List (Option ℕ)) (label : Option ℕ)
    → ((a : ArcId) → more a → kind a ⊎ (a ≡ b)) → IsTrue (takes b) → label_at old (tail_of p b).0 ≡ label → (head_of p b).0 < length new
    → AreOffered p takes prices old kind before new → AreOffered p takes prices old more before (offered_to p prices b label new)
by_tail p takes prices old kind more b before new None parts taken tail within h =
    offered-same p takes prices old kind more b before new parts (λ price t at. absurd (let bad : None ≡ Some price = sym tail ∙ at in cc)) h
by_tail p takes prices old kind more b before new (Some price) parts taken tail within h = offered-new p takes prices old kind more b price before new parts taken tail within h

-- one arc more
pub offered-more : (p : Parts) (takes : ArcId → Bool) (prices : List ℕ) (old : List (Option ℕ)) (kind more : ArcId → Type 0) (b : ArcId) (before new after : List (Option ℕ))
    → ((a : ArcId) → more a → kind a ⊎ (a ≡ b)) → (IsTrue (takes b) → (head_of p b).0 < length new) → IsRelaxed p takes prices old b new after
    → AreOffered p takes prices old kind before new → AreOffered p takes prices old more before after
offered-more p takes prices old kind more b before new after parts within relaxed h = elim (cases_Bool (takes b)) [
  | inl taken ↦ (
      let is : after ≡ offered_to p prices b (label_at old (tail_of p b).0) new = rw taken at relaxed in
      subst (AreOffered p takes prices old more before) (sym is) (by_tail p takes prices old kind more b before new (label_at old (tail_of p b).0) parts taken refl (within taken) h))
  | inr not_taken ↦ (
      let is : after ≡ new = rw not_taken at relaxed in
      subst (AreOffered p takes prices old more before) (sym is) (offered-same p takes prices old kind more b before new parts (λ price taken at. absurd (let bad : true ≡ false = sym taken ∙ not_taken in cc)) h))
]

-- ---- node by node

-- the arcs of one node more
pub offered-node : (p : Parts) (takes : ArcId → Bool) (prices : List ℕ) (old : List (Option ℕ)) (n : ℕ) (before new after : List (Option ℕ)) → AreOffered p takes prices old (Leaves p n) new after
    → AreOffered p takes prices old (LeavesBelow p n) before new → AreOffered p takes prices old (LeavesBelow p (n + 1)) before after
offered-node p takes prices old n before new after here h = record {
  count = here.count ∙ h.count;
  from = λ v price is. elim (here.from v price is) [ inl was ↦ h.from v price was | inr along ↦ inr along ];
  kept = λ v bound low. here.kept v bound (h.kept v bound low);
  offered = λ a price below taken tail. elim (before_or_at (tail_of p a).0 n below) [
    | inl earlier ↦ here.kept (head_of p a).0 _ (h.offered a price earlier taken tail)
    | inr is ↦ here.offered a price is taken tail
  ];
}

-- a node whose price is that of a round earlier
pub offered-over : (p : Parts) (takes : ArcId → Bool) (prices : List ℕ) (earlier old : List (Option ℕ)) (n : ℕ) (new : List (Option ℕ)) → HasOffered p takes prices earlier old → label_at earlier n ≡ label_at old n
    → AreOffered p takes prices old (LeavesBelow p n) old new → AreOffered p takes prices old (LeavesBelow p (n + 1)) old new
offered-over p takes prices earlier old n new offered same h = record {
  count = h.count;
  from = h.from;
  kept = h.kept;
  offered = λ a price below taken tail. elim (before_or_at (tail_of p a).0 n below) [
    | inl before ↦ h.offered a price before taken tail
    | inr is ↦ h.kept (head_of p a).0 _ (offered a price taken (ap (label_at earlier) is ∙ same ∙ ap (label_at old) (sym is) ∙ tail))
  ];
}

-- the arc stands at one of the first so many places
pub record StandsBelow (arcs : List ArcId) (i : ℕ) (a : ArcId) : Type 0 where
  pub place : ℕ
  pub below : place < i
  pub is : arc_at arcs place ≡ a

-- no arc stands at the first 0 places
pub stands-none : (arcs : List ArcId) (a : ArcId) → StandsBelow arcs 0 a → ⊥
stands-none arcs a h = omega (arith, h.below)

-- an arc at one of the first places is before the last of them or at it
pub stands-parts : (arcs : List ArcId) (i : ℕ) (a : ArcId) → StandsBelow arcs (i + 1) a → StandsBelow arcs i a ⊎ (a ≡ arc_at arcs i)
stands-parts arcs i a h = elim (before_or_at h.place i h.below) [
  | inl below ↦ inl (record { place = h.place; below = below; is = h.is })
  | inr at ↦ inr (sym h.is ∙ ap (arc_at arcs) at)
]

-- where the places are those of all arcs that leave the node, it is done
pub offered-leaving : (p : Parts) (takes : ArcId → Bool) (prices : List ℕ) (old : List (Option ℕ)) (arcs : List ArcId) (v n : ℕ) (before after : List (Option ℕ)) → ((a : ArcId) → IsTrue (takes a) → IsTrue (is_arc p a))
    → AreLeaving p v arcs → length arcs ≤ n → AreOffered p takes prices old (StandsBelow arcs n) before after → AreOffered p takes prices old (Leaves p v) before after
offered-leaving p takes prices old arcs v n before after are leaving all h = record {
  count = h.count;
  from = h.from;
  kept = h.kept;
  offered = λ a price from taken tail.
      let at = leaving.complete a (are a taken) from in
      h.offered a price (record { place = at.place; below = (let inside = at.within in omega (arith, inside, all)); is = at.is }) taken tail;
}
