-- A node whose round ends gives the place back.
use Rattle.search_nodes.specs.declared.slot.Slot.{Slot}
use Rattle.search_nodes.specs.declared.slot.Slot.TheVariants.{Free, Of}
use Rattle.std.proofs.Common.{[], ◌≡◌, ◌≢◌, ℕ, suc, ◌+◌, ◌<◌, ◌⊎◌, inl, inr, List, ◌∷◌, ◌++◌, length, set, get_or, Option, Some, None, slice_get, refl, sym, ap, subst, ◌∙◌, arith, sum_by, cond, length-set}
use Rattle.std.specs.Prelude.{IsSomeAnd}
use Rattle.std.proofs.lemmas.Option.{slice_get-get_or}
use Rattle.std.proofs.lemmas.List.Sums.{sum_by-append, sum_by-cons}
use Rattle.plan_base.specs.declared.ids.BranchId.{BranchId}
use Rattle.plan_base.specs.declared.parts.Parts.{Parts}
use Rattle.plan_base.specs.Places.{places}
use Rattle.proof_tree.specs.declared.cuts.Cut.{Cut}
use Rattle.search_machine.specs.State.{Round, Node, State, restriction_of, region_of, rounds_by, rounds_in, active_count}
use Rattle.search_machine.specs.Opening.{HasSlot, IsTaken}
use Rattle.search_machine.specs.Nodes.{IsSoundRound}
use Rattle.search_machine.specs.Soundness.{IsSound}
use Rattle.search_machine.specs.Family.{badge_of}
use Rattle.search_nodes.specs.Slots.{is_free, given_back}
use Rattle.search_view.specs.Views.{IsTakenBy, HasPlaces}
use Rattle.search_nodes.specs.Grounds.{Kept, IsGroundOf, HasGrounds}
use Rattle.search_machine.proofs.Lists.{sum_by-set_at, slice_get-set_same, slice_get-set_other, slice_get-set_cases, slice_get-append_left, slice_get-append_cases}
use Rattle.search_machine.proofs.Frames.{same_or_other, one_at, badge_at-at}
use Rattle.search_machine.proofs.Replacing.{node_at}

-- a round with the slot has a badge with it
slot-badge : (o : Option Round) (slot : ℕ) → IsSomeAnd o (λ r. r.slot ≡ slot) → (version : ℕ) × (badge_of o ≡ Some (slot, version))
slot-badge None slot has = absurd has
slot-badge (Some round) slot has = (round.version, ap (λ (n : ℕ). Some (n, round.version)) has)

-- the state after: the node has no round, and more nodes without rounds may follow
pub record HasEnded (s t : State) (id : ℕ) (old new : Node) (more : List Node) : Type 0 where
  pub is_node : slice_get s.nodes id ≡ Some old
  pub no_round : new.round ≡ None
  pub none_more : (j : ℕ) (m : Node) → slice_get more j ≡ Some m → m.round ≡ None
  pub nodes : t.nodes ≡ set s.nodes id new ++ more
  pub problem : t.problem ≡ s.problem
  pub cuts : t.cuts ≡ s.cuts

module _ (s t : State) (id : ℕ) (old new : Node) (more : List Node) (e : HasEnded s t id old new more) (sound : IsSound s) where
  -- a slot that the node did not have is taken as before
  taken-there : (k n : ℕ) → IsTakenBy s k n → (HasSlot k old → ⊥) → IsTakenBy t k n
  taken-there k n taken not_old = elim (same_or_other n id) [
    | inr ne ↦
        let at : slice_get (set s.nodes id new) n ≡ Some taken.0 = slice_get-set_other s.nodes id n new ne ∙ taken.1 in
        (taken.0, subst (λ (xs : List Node). slice_get xs n ≡ Some taken.0) (sym e.nodes) (slice_get-append_left (set s.nodes id new) more n taken.0 at), taken.2)
    | inl is ↦
        let at : slice_get s.nodes id ≡ Some taken.0 = subst (λ (i : ℕ). slice_get s.nodes i ≡ Some taken.0) is taken.1 in
        absurd (not_old (subst (HasSlot k) (one_at s.nodes id taken.0 old at e.is_node) taken.2))
  ]

  -- what takes a slot afterwards took it before, and is another node
  taken-back : (k : ℕ) → IsTaken t k → (m : ℕ) × (node : Node) × (slice_get s.nodes m ≡ Some node) × HasSlot k node × (m ≢ id)
  taken-back k taken =
      let at : slice_get (set s.nodes id new ++ more) taken.0 ≡ Some taken.1 = subst (λ (xs : List Node). slice_get xs taken.0 ≡ Some taken.1) e.nodes taken.2 in
      elim (slice_get-append_cases (set s.nodes id new) more taken.0 taken.1 at) [
        | inl w ↦ elim (slice_get-set_cases s.nodes id taken.0 new taken.1 w) [
          | inl u ↦ absurd (subst (λ (o : Option Round). IsSomeAnd o (λ r. r.slot ≡ k)) (ap (λ (x : Node). x.round) u.1 ∙ e.no_round) taken.3)
          | inr u ↦ (taken.0, taken.1, u.1, taken.3, u.0)
        ]
        | inr w ↦ absurd (subst (λ (o : Option Round). IsSomeAnd o (λ r. r.slot ≡ k)) (e.none_more w.0 taken.1 w.2) taken.3)
      ]

  rounds-none : (nodes : List Node) → ((j : ℕ) (m : Node) → slice_get nodes j ≡ Some m → m.round ≡ None) → sum_by rounds_in nodes ≡ 0
  rounds-none [] none = refl
  rounds-none (m ∷ nodes) none =
      let first : rounds_in m ≡ 0 = ap rounds_by (none 0 m refl) in
      omega (arith, first, sum_by-cons rounds_in m nodes, rounds-none nodes (λ j x is. none (suc j) x is))

  -- one round fewer, where the node had one
  active-after : active_count t + rounds_in old ≡ active_count s
  active-after =
      let all : active_count t ≡ sum_by rounds_in (set s.nodes id new ++ more) = ap (sum_by rounds_in) e.nodes in
      let both = sum_by-append rounds_in (set s.nodes id new) more in
      let rest = rounds-none more e.none_more in
      let one = sum_by-set_at rounds_in s.nodes id old new e.is_node in
      let none : rounds_in new ≡ 0 = ap rounds_by e.no_round in
      omega arith

  -- as many prices and rates as before
  same_width : places s.problem + length s.cuts ≡ places t.problem + length t.cuts
  same_width = let p = ap places e.problem in let cuts : length t.cuts ≡ length s.cuts = ap (λ (xs : List Cut). length xs) e.cuts in omega arith

  HasPlaces-idle : (slots : List Slot) → old.round ≡ None → HasPlaces s slots → HasPlaces t slots
  HasPlaces-idle slots none h = record {
    count = h.count;
    total = (
        let after = active-after in
        let zero_ : rounds_in old ≡ 0 = ap rounds_by none in
        let total = h.total in
        omega arith
        );
    taken = λ k n is. taken-there k n.0 (h.taken k n is) (λ has. subst (λ (o : Option Round). IsSomeAnd o (λ r. r.slot ≡ k)) none has);
    free = λ k place is taken. let b = taken-back k taken in h.free k place is (b.0, b.1, b.2, b.3);
    slot_is = h.slot_is;
    demands = λ k place is. h.demands k place is ∙ sym (ap (λ (p : Parts). length p.demands) e.problem);
    prices = λ k place is. h.prices k place is ∙ same_width;
  }

  module _ (slots : List Slot) (round : Round) (had : old.round ≡ Some round) (h : HasPlaces s slots) where
    is_sound : IsSoundRound s.problem s.cuts (restriction_of old) round
    is_sound = (rw had at ((node_at s id old sound e.is_node).round)).1

    has_slot : HasSlot round.slot old
    has_slot = subst (λ (o : Option Round). IsSomeAnd o (λ r. r.slot ≡ round.slot)) (sym had) refl

    -- the slot of the round that ends is below the count of slots
    pub slot-within : round.slot < length slots
    slot-within = let w = is_sound.slot in let c = h.count in omega arith

    -- its place was taken
    was_taken : (n : BranchId) × (slice_get slots round.slot ≡ Some (Of n))
    was_taken = by_cases (get_or slots round.slot (Free round)) (slice_get-get_or slots round.slot (Free round) slot-within)
      where
        by_cases : (o : Slot) → slice_get slots round.slot ≡ Some o → (n : BranchId) × (slice_get slots round.slot ≡ Some (Of n))
        by_cases (Of n) is = (n, is)
        by_cases (Free place) is = absurd (h.free round.slot place is (id, old, e.is_node, has_slot))

    -- no other node has the slot
    not_other : (m : ℕ) (node : Node) → slice_get s.nodes m ≡ Some node → HasSlot round.slot node → m ≢ id → ⊥
    not_other m node at has ne =
        let theirs = slot-badge node.round round.slot has in
        let ours = slot-badge old.round round.slot has_slot in
        ne (sound.apart.slots m id round.slot theirs.0 ours.0 (badge_at-at s.nodes m node at ∙ theirs.1) (badge_at-at s.nodes id old e.is_node ∙ ours.1))

    same_place : (k : ℕ) (place : Round) → slice_get (set slots round.slot (Free round)) k ≡ Some (Free place)
        → ((k ≡ round.slot) × (place ≡ round)) ⊎ ((k ≢ round.slot) × (slice_get slots k ≡ Some (Free place)))
    same_place k place is = elim (slice_get-set_cases slots round.slot k (Free round) (Free place) is) [
      | inl w ↦ inl (w.0, (let e' = w.1 in cc))
      | inr w ↦ inr w
    ]

    HasPlaces-active : HasPlaces t (set slots round.slot (Free round))
    HasPlaces-active = record {
      count = length-set slots round.slot (Free round) ∙ h.count;
      total = (
          let after = active-after in
          let one : rounds_in old ≡ 1 = ap rounds_by had in
          let c = sum_by-set_at (λ (o : Slot). cond (is_free o) 1 0) slots round.slot (Of was_taken.0) (Free round) was_taken.1 in
          let total = h.total in
          omega arith
          );
      taken = λ k n is. elim (slice_get-set_cases slots round.slot k (Free round) (Of n) is) [
        | inl w ↦ absurd (let bad : Of n ≡ Free round = w.1 in cc)
        | inr w ↦ taken-there k n.0 (h.taken k n w.1) (λ has. w.0 (sym (subst (λ (o : Option Round). IsSomeAnd o (λ r. r.slot ≡ k)) had has)))
      ];
      free = λ k place is taken. let b = taken-back k taken in elim (same_place k place is) [
        | inl w ↦ not_other b.0 b.1 b.2 (subst (λ (n : ℕ). HasSlot n b.1) w.0 b.3) b.4
        | inr w ↦ h.free k place w.1 (b.0, b.1, b.2, b.3)
      ];
      slot_is = λ k place is. elim (same_place k place is) [
        | inl w ↦ ap (λ (r : Round). r.slot) w.1 ∙ sym w.0
        | inr w ↦ h.slot_is k place w.1
      ];
      demands = λ k place is. elim (same_place k place is) [
        | inl w ↦ ap (λ (r : Round). length r.found) w.1 ∙ is_sound.count
        | inr w ↦ h.demands k place w.1
      ] ∙ sym (ap (λ (p : Parts). length p.demands) e.problem);
      prices = λ k place is. elim (same_place k place is) [
        | inl w ↦ ap (λ (r : Round). length r.prices) w.1 ∙ is_sound.prices.count
        | inr w ↦ h.prices k place w.1
      ] ∙ same_width;
    }

  -- the slots once the round has ended are those of the state after
  pub HasPlaces-ended : (slots : List Slot) → HasPlaces s slots → HasPlaces t (given_back slots old.round)
  HasPlaces-ended slots h = by_cases old.round refl
    where
      by_cases : (o : Option Round) → old.round ≡ o → HasPlaces t (given_back slots o)
      by_cases None none = HasPlaces-idle slots none h
      by_cases (Some round) had = HasPlaces-active slots round had h

  -- where the node that loses its round had one, the slot of it is below the count of slots
  pub round-within : (slots : List Slot) → HasPlaces s slots → (round : Round) → old.round ≡ Some round → round.slot < length slots
  round-within slots h round had = slot-within slots round had h

-- a node that is no open leaf keeps no region
pub HasGrounds-cleared : (p : Parts) (nodes : List Node) (grounds : List (Option Kept)) (id : ℕ) (old new : Node) → slice_get nodes id ≡ Some old
    → IsGroundOf p (region_of p new) new.fate None → HasGrounds p nodes grounds → HasGrounds p (set nodes id new) (set grounds id None)
HasGrounds-cleared p nodes grounds id old new is keeps_none h = record {
  count = length-set grounds id None ∙ (h.count ∙ sym (length-set nodes id new));
  each = λ m node at. elim (slice_get-set_cases nodes id m new node at) [
    | inl w ↦
        let g = h.each id old is in (
          None,
          subst (λ (i : ℕ). slice_get (set grounds id None) i ≡ Some None) (sym w.0) (slice_get-set_same grounds id g.0 None g.1),
          subst (λ (x : Node). IsGroundOf p (region_of p x) x.fate None) (sym w.1) keeps_none,
        )
    | inr w ↦
        let g = h.each m node w.1 in
        (g.0, slice_get-set_other grounds id m None w.0 ∙ g.1, g.2)
  ];
}
