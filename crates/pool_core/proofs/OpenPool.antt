-- An opening on the pool's own fields is the event, and keeps what the pool is.
use Rattle.search_nodes.specs.declared.slot.Slot.{Slot}
use Rattle.search_nodes.specs.declared.slot.Slot.TheVariants.{Free, Of}
use Rattle.std.proofs.Common.{◌≡◌, ◌≢◌, ℕ, suc, ◌<◌, ◌≤◌, inl, inr, true, false, not, List, length, set, get_or, replicate, Option, Some, None, slice_get, refl, sym, ap, ap₂, subst, ◌∙◌, arith, count_by, cond, length-set}
use Rattle.std.specs.Prelude.{IfSome, IsSomeAnd, nat_le, Ok}
use Rattle.std.proofs.lemmas.Bool.Decides.{nat_tests}
use Rattle.std.proofs.lemmas.Option.{slice_get_within, get_or_from_slice_get}
use Rattle.std.proofs.lemmas.List.{length-replicate}
use Rattle.plan_base.specs.declared.ids.BranchId.{BranchId}
use Rattle.plan_base.specs.First.{◌or_else◌, when}
use Rattle.plan_base.proofs.Bools.{not-false}
use Rattle.plan_base.proofs.FirstFault.{or_else-none, when-none}
use Rattle.search_machine.specs.declared.limits.TheConstants.{MAX_ROUNDS}
use Rattle.search_machine.specs.declared.answers.RoundFault.{RoundFault}
use Rattle.search_machine.specs.declared.answers.RoundFault.TheVariants as round_fault
use Rattle.branch_tree.specs.declared.node.Fate.{Fate}
use Rattle.branch_tree.specs.declared.node.Fate.TheVariants.{Undone, ClosedBy, DividedBy}
use Rattle.search_machine.specs.State.{Round, Node, State, restriction_of, rounds_by, rounds_in, active_count, state_by, state_in, state_of}
use Rattle.search_machine.specs.Changes.{is_spent, TakesRound}
use Rattle.search_machine.specs.Opening.{is_waiting, open_fault, HasSlot, IsTaken, IsLowestFreeSlot, empty_round, MayOpen, Opens}
use Rattle.search_machine.specs.Machine.{Opening, to_opening}
use Rattle.search_machine.specs.Nodes.{IsSoundRound, IsSoundNode}
use Rattle.search_nodes.specs.Slots.{is_free, IsFirstFree}
use Rattle.search_view.specs.Views.{IsTakenBy, HasPlaces, IsPool, IsKeptPool}
use Rattle.search_machine.proofs.Lists.{sum_by-set_at, slice_get-set_same, slice_get-set_other, slice_get-set_cases}
use Rattle.search_machine.proofs.Frames.{same_or_other, one_at}
use Rattle.search_machine.proofs.Replacing.{node_at}
use Rattle.search_machine.proofs.Runs.{IsReachable-step, IsReachable-sound}
use Rattle.search_machine.proofs.Small.{IsSound-next_version}
use Rattle.pool_core.proofs.Answering.{is_spent-false}
use Rattle.search_nodes.proofs.Grounds.{HasGrounds-set}
use Rattle.search_machine.proofs.Opening.{none_found}
use Rattle.search_nodes.proofs.Completing.{TakesRound-round, TakesRound-limits, TakesRound-fate, TakesRound-from}
use Rattle.cut_values.specs.Numbers.{CutProblem}
use Rattle.search_nodes.specs.Grounds.{Kept}
use Rattle.search_nodes.specs.Rounds.{MayComplete}

waits-by : (fate : Fate) (round : Option Round) → is_waiting (state_by fate round) ≡ true → (fate ≡ Undone) × (round ≡ None)
waits-by Undone None h = (refl, refl)
waits-by Undone (Some round) h = absurd (let bad : false ≡ true = h in cc)
waits-by (ClosedBy found) round h = absurd (let bad : false ≡ true = h in cc)
waits-by (DividedBy d) round h = absurd (let bad : false ≡ true = h in cc)

waits-in : (o : Option Node) → is_waiting (state_in o) ≡ true → (node : Node) × (o ≡ Some node) × (node.fate ≡ Undone) × (node.round ≡ None)
waits-in None h = absurd (let bad : false ≡ true = h in cc)
waits-in (Some node) h = let w = waits-by node.fate node.round h in (node, refl, w.0, w.1)

-- where no fault is found, the budget is not spent, the node waits, and fewer rounds are active than may be
pub open_fault-none : (s : State) (id : BranchId) → open_fault s id ≡ None → MayOpen s id
unfolding open_fault
open_fault-none s id h =
    let a = when (is_spent s) (round_fault.Spent s.examined) in
    let b = when (not (is_waiting (state_of s id))) (round_fault.NotOpen (state_of s id)) in
    let c = when (nat_le MAX_ROUNDS (active_count s)) (round_fault.Crowded (active_count s)) in
    let one = or_else-none a (b or_else c) h in
    let two = or_else-none b c one.1 in
    let w = waits-in (slice_get s.nodes id.0) (not-false _ (when-none _ _ two.0)) in
    let few : nat_le MAX_ROUNDS (active_count s) ≡ false = when-none _ _ two.1 in
    record { not_spent = is_spent-false s (when-none _ _ one.0); node = w.0; is_node = w.1; undone = w.2; no_round = w.3; room = grind (arith, nat_tests) }

-- where the read pool tells of no fault, there is none
pub unrefused : (s read now : State) (id : BranchId) (fault : Option RoundFault) → s ≡ now → read ≡ now → fault ≡ open_fault read id → fault ≡ None → open_fault s id ≡ None
unrefused s read now id fault is is_read told none =
    subst (λ (t : State). open_fault t id ≡ None) (sym is) (sym (told ∙ ap (λ (t : State). open_fault t id) is_read) ∙ none)

-- and the node may be opened
pub may-open : (s read now : State) (id : BranchId) (fault : Option RoundFault) → s ≡ now → read ≡ now → fault ≡ open_fault read id → fault ≡ None → MayOpen s id
may-open s read now id fault is is_read told none = open_fault-none s id (unrefused s read now id fault is is_read told none)

-- a node that may be opened, and the first free slot
pub record IsOpening (s : State) (places : List Slot) (id : BranchId) (slot : ℕ) : Type 0 where
  pub may : MayOpen s id
  pub first : IsFirstFree places slot

-- where the read pool tells of no fault and of the first free slot, both are there
pub opening-told : (s read now : State) (id : BranchId) (fault : Option RoundFault) (places shown : List Slot) (slot : ℕ) → s ≡ now → read ≡ now → fault ≡ open_fault read id → fault ≡ None → shown ≡ places
    → IsFirstFree shown slot → IsOpening s places id slot
opening-told s read now id fault places shown slot is is_read told none same first =
    record { may = may-open s read now id fault is is_read told none; first = subst (λ (xs : List Slot). IsFirstFree xs slot) same first }

module _ (s : State) (places : List Slot) (id : BranchId) (slot : ℕ) (h : IsPool s places) (o : IsOpening s places id slot) where
  -- the round that a place is begun as
  abbrev begun_round : Round → List ℕ → Round
  begun_round place prices = record { slot = place.slot; version = s.next_version; prices = prices; found = replicate (length place.found) None }

  abbrev empty : Round
  empty = empty_round s slot o.may.node.first_prices

  slot_is : o.first.place.slot ≡ slot
  slot_is = h.has_places.slot_is slot o.first.place o.first.is_free

  -- the first free slot is below the greatest count of active rounds
  pub slot-within : slot < MAX_ROUNDS
  slot-within = let w = slice_get_within places slot (Free o.first.place) o.first.is_free in let c = h.has_places.count in omega arith

  -- the first free place is the lowest free slot
  pub lowest-free : IsLowestFreeSlot s slot
  lowest-free = record {
    within = slot-within;
    free = λ taken. h.has_places.free slot o.first.place o.first.is_free taken;
    lowest = λ other below. let w = o.first.lower other below in let t = h.has_places.taken other w.0 w.1 in (w.0.0, t.0, t.1, t.2);
  }

  is_empty : begun_round o.first.place o.may.node.first_prices ≡ empty
  is_empty =
      let make : ℕ → ℕ → Round = λ (a b : ℕ). record { slot = a; version = s.next_version; prices = o.may.node.first_prices; found = replicate b None } in
      ap₂ make slot_is (h.has_places.demands slot o.first.place o.first.is_free)

  at_node : IsSoundNode s.problem s.cuts o.may.node
  at_node = node_at s id.0 o.may.node (IsReachable-sound s h.reachable) o.may.is_node

  empty-sound : IsSoundRound s.problem s.cuts (restriction_of o.may.node) empty
  empty-sound = record {
    slot = slot-within;
    count = length-replicate (length s.problem.demands) None;
    prices = at_node.first_prices;
    least = λ j found is. absurd (none_found (length s.problem.demands) j found is);
  }

  prices-fit : length o.may.node.first_prices ≡ length o.first.place.prices
  prices-fit = at_node.first_prices.count ∙ sym (h.has_places.prices slot o.first.place o.first.is_free)

  -- the next version of a pool is at most 139282
  pub version-small : s.next_version ≤ 139282
  version-small = IsSound-next_version s (IsReachable-sound s h.reachable) h.budget

  -- the place that is read is free
  pub read-free : (read : Slot) → read ≡ get_or places slot read → ((place : Round) → read ≡ Free place → ⊥) → ⊥
  read-free read at_place not_free = not_free o.first.place (at_place ∙ get_or_from_slice_get places slot (Free o.first.place) read o.first.is_free)

  -- The node and the place as they are read, and the node when its round has begun

  module _ (item : Node) (place : Round) (read : Slot) (at_item : item ≡ get_or s.nodes id.0 item) (at_place : read ≡ get_or places slot read) (is : read ≡ Free place) where
    item_is : item ≡ o.may.node
    item_is = at_item ∙ get_or_from_slice_get s.nodes id.0 o.may.node item o.may.is_node

    place_is : place ≡ o.first.place
    place_is = let same : Free place ≡ Free o.first.place = sym is ∙ (at_place ∙ get_or_from_slice_get places slot (Free o.first.place) read o.first.is_free) in cc

    -- the read node has as many first prices as the free slot has room for
    pub place-fits : length item.first_prices ≡ length place.prices
    place-fits = ap (λ (x : Node). length x.first_prices) item_is ∙ (prices-fit ∙ sym (ap (λ (r : Round). length r.prices) place_is))

    module _ (mid : Node) (begun : mid ≡ record item { round = Some (begun_round place item.first_prices) }) where
      mid_is : mid ≡ record o.may.node { round = Some empty }
      mid_is =
          let make : Node → Round → Node = λ x r. record x { round = Some r } in
          begun ∙ (ap₂ (λ (x : Node) (r : Round). make x (begun_round r x.first_prices)) item_is place_is ∙ ap (make o.may.node) is_empty)

      -- the node has the same limits once its round has begun
      pub begun-limits : mid.limits ≡ o.may.node.limits
      begun-limits = ap (λ (x : Node). x.limits) mid_is

      -- the node whose round has begun is an open leaf with a sound round, which may become complete
      pub begun-ready : MayComplete s.problem s.cuts mid
      begun-ready = subst (MayComplete s.problem s.cuts) (sym mid_is) (record {
        undone = o.may.undone;
        price_count = at_node.first_prices.count;
        ranges = at_node.ranges;
        version_count = at_node.version_count;
        is_sound = empty-sound;
      })

      -- what the begun node becomes with its round is what the waiting node becomes with an empty round
      pub begun-takes : (new : Node) → IfSome mid.round (λ r. TakesRound s.problem s.cuts mid r new) → TakesRound s.problem s.cuts o.may.node empty new
      begun-takes new takes = TakesRound-from s.problem s.cuts o.may.node mid new empty mid_is takes

  -- The state after

  module _ (after : Node) (takes : TakesRound s.problem s.cuts o.may.node empty after) (version : ℕ) (version_is : version ≡ suc s.next_version) where
    abbrev next : State
    next = record s { nodes = set s.nodes id.0 after; next_version = version }

    -- the state in which the node has taken the empty round, and one more version is counted, is the event
    pub opens : Opens s id (record { slot = slot; version = s.next_version }) next
    opens = record {
      may = o.may;
      slot = lowest-free;
      version = refl;
      after = after;
      takes = takes;
      becomes = ap (λ (n : ℕ). let t : State = record s { nodes = set s.nodes id.0 after; next_version = n } in t) version_is;
    }

    after-round : after.round ≡ Some empty
    after-round = TakesRound-round s.problem s.cuts o.may.node empty after takes

    taken-there : (k n : ℕ) → IsTakenBy s k n → IsTakenBy next k n
    taken-there k n t = elim (same_or_other n id.0) [
      | inr ne ↦ (t.0, slice_get-set_other s.nodes id.0 n after ne ∙ t.1, t.2)
      | inl e ↦
          let at : slice_get s.nodes id.0 ≡ Some t.0 = subst (λ (i : ℕ). slice_get s.nodes i ≡ Some t.0) e t.1 in
          let node : t.0 ≡ o.may.node = one_at s.nodes id.0 t.0 o.may.node at o.may.is_node in
          let none : t.0.round ≡ None = ap (λ (x : Node). x.round) node ∙ o.may.no_round in
          let bad : ⊥ = subst (λ (o : Option Round). IsSomeAnd o (λ r. r.slot ≡ k)) none t.2 in
          absurd bad
    ]

    has_slot : HasSlot slot after
    has_slot = subst (λ (o : Option Round). IsSomeAnd o (λ r. r.slot ≡ slot)) (sym after-round) refl

    taken-back : (k : ℕ) → k ≢ slot → IsTaken next k → IsTaken s k
    taken-back k ne t = elim (slice_get-set_cases s.nodes id.0 t.0 after t.1 t.2) [
      | inr w ↦ (t.0, t.1, w.1, t.3)
      | inl w ↦
          let has : slot ≡ k = subst (λ (o : Option Round). IsSomeAnd o (λ r. r.slot ≡ k)) after-round (subst (HasSlot k) w.1 t.3) in
          absurd (ne (sym has))
    ]

    -- a place that is free afterwards was free before, and is another one
    was_free : (k : ℕ) (place : Round) → slice_get (set places slot (Of id)) k ≡ Some (Free place) → (k ≢ slot) × (slice_get places k ≡ Some (Free place))
    was_free k place is = elim (slice_get-set_cases places slot k (Of id) (Free place) is) [ inl w ↦ absurd (let bad : Free place ≡ Of id = w.1 in cc) | inr w ↦ w ]

    has_places : HasPlaces next (set places slot (Of id))
    has_places =
        let p = h.has_places in
        record {
          count = length-set places slot (Of id) ∙ p.count;
          total = (
              let c = sum_by-set_at (λ (o : Slot). cond (is_free o) 1 0) places slot (Free o.first.place) (Of id) o.first.is_free in
              let a = sum_by-set_at rounds_in s.nodes id.0 o.may.node after o.may.is_node in
              let none : rounds_in o.may.node ≡ 0 = ap rounds_by o.may.no_round in
              let one : rounds_in after ≡ 1 = ap rounds_by after-round in
              let t = p.total in
              omega arith
              );
          taken = λ k n is. elim (slice_get-set_cases places slot k (Of id) (Of n) is) [
            | inl w ↦
                let same : n ≡ id = (let e : Of n ≡ Of id = w.1 in cc) in
                subst (λ (b : BranchId). IsTakenBy next k b.0) (sym same)
                (after, slice_get-set_same s.nodes id.0 o.may.node after o.may.is_node, subst (λ (i : ℕ). HasSlot i after) (sym w.0) has_slot)
            | inr w ↦ taken-there k n.0 (p.taken k n w.1)
          ];
          free = λ k place is t. let w = was_free k place is in p.free k place w.1 (taken-back k w.0 t);
          slot_is = λ k place is. p.slot_is k place (was_free k place is).1;
          demands = λ k place is. p.demands k place (was_free k place is).1;
          prices = λ k place is. p.prices k place (was_free k place is).1;
        }

    opened-IsPool : IsPool next (set places slot (Of id))
    opened-IsPool = record {
      some_budget = h.some_budget;
      budget = h.budget;
      reachable = IsReachable-step s next (Opening id) (to_opening (Ok (record { slot = slot; version = s.next_version }))) h.reachable opens;
      has_places = has_places;
    }

    -- the pool stays one when the node has taken its round and the slot names the node
    pub opened-kept : (table : CutProblem) (grounds : List (Option Kept)) (item : Node) (left : Slot) → item ≡ get_or s.nodes id.0 item → left ≡ Of id → IsKeptPool s table grounds places
        → IsKeptPool next table grounds (set places slot left)
    opened-kept table grounds item left at_item none kept =
        let same : item ≡ o.may.node = at_item ∙ get_or_from_slice_get s.nodes id.0 o.may.node item o.may.is_node in
        record {
          pool = subst (λ (o : Slot). IsPool next (set places slot o)) (sym none) opened-IsPool;
          table_is = kept.table_is;
          cuts_are = kept.cuts_are;
          has_grounds = HasGrounds-set s.problem s.nodes grounds id.0 item after (slice_get_within s.nodes id.0 o.may.node o.may.is_node) at_item
              (TakesRound-limits s.problem s.cuts o.may.node empty after takes ∙ ap (λ (x : Node). x.limits) (sym same))
              (TakesRound-fate s.problem s.cuts o.may.node empty after takes ∙ ap (λ (x : Node). x.fate) (sym same)) kept.has_grounds;
        }

-- where a node may be opened, some slot is free
pub some_free : (s : State) (places : List Slot) (id : BranchId) → IsPool s places → MayOpen s id → 0 < count_by is_free places
some_free s places id h may = let t = h.has_places.total in let r = may.room in omega arith
