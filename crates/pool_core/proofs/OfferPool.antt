-- Offers on the pool's own fields are the events, and keep what the pool is.
use Rattle.search_nodes.specs.declared.slot.Slot.{Slot}
use Rattle.std.proofs.Common.{◌≡◌, ℕ, suc, ◌^◌, ◌<◌, inl, inr, Bool, true, false, not, ◌||◌, List, length, set, get_or, Option, Some, None, slice_get, refl, sym, ap, subst, ◌∙◌, arith}
use Rattle.std.specs.Prelude.{⊤, IfSome, IsSomeAnd, is_some, option_map, option_and_then, nat_le}
use Rattle.std.proofs.lemmas.Bool.Decides.{nat_tests}
use Rattle.std.proofs.lemmas.Option.{slice_get-get_or, slice_get_within, get_or_from_slice_get}
use Rattle.plan_base.specs.declared.ids.BranchId.{BranchId}
use Rattle.plan_base.specs.declared.parts.Parts.{Parts}
use Rattle.plan_base.specs.First.{◌or_else◌, when}
use Rattle.plan_base.proofs.FirstFault.{or_else-none, when-none}
use Rattle.cut_values.specs.Numbers.{CutProblem}
use Rattle.search_nodes.specs.Grounds.{Kept}
use Rattle.path_pricing.specs.declared.priced.Priced.{Priced}
use Rattle.path_pricing.specs.declared.priced.Priced.TheVariants as priced
use Rattle.path_pricing.specs.declared.priced.Unfit.{Unfit}
use Rattle.path_pricing.specs.Priced.{IsLeastPath}
use Rattle.path_pricing.specs.Faults.{priced_fault}
use Rattle.path_pricing.proofs.FaultLaws.{IsPriced-priced_fault}
use Rattle.search_machine.specs.declared.answers.Offer.{Offer}
use Rattle.branch_tree.specs.declared.node.Fate.TheVariants.{Undone}
use Rattle.search_machine.specs.declared.answers.Offered.{Offered}
use Rattle.search_machine.specs.declared.answers.Offered.TheVariants as offered
use Rattle.search_machine.specs.declared.tree.Found.{Found}
use Rattle.search_machine.specs.declared.tree.HeldCut.{HeldCut}
use Rattle.search_machine.specs.State.{Round, Node, State, restriction_of, left_of, rounds_by, rounds_in, round_of}
use Rattle.search_machine.specs.Changes.{is_spent, version_in, is_version, has_cut, stale_fault, TakesRound, with_node}
use Rattle.search_machine.specs.Offering.{is_priced, unfit_in, offer_fault, FitsRound, TakesCut, Accepts, OfferStep, with_found}
use Rattle.search_machine.specs.Opening.{HasSlot, IsTaken}
use Rattle.search_machine.specs.Machine.{Offering, to_offering, IsReachable}
use Rattle.search_machine.specs.Nodes.{IsSoundNode}
use Rattle.search_machine.specs.Soundness.{IsSound}
use Rattle.search_view.specs.Views.{IsTakenBy, HasPlaces, IsPool, IsKeptPool}
use Rattle.search_machine.proofs.Lists.{sum_by-set_at, slice_get-set_same, slice_get-set_other, slice_get-set_cases}
use Rattle.search_machine.proofs.Frames.{same_or_other, one_at}
use Rattle.search_machine.proofs.Replacing.{node_at}
use Rattle.search_machine.proofs.Runs.{IsReachable-step, IsReachable-sound}
use Rattle.search_machine.proofs.Small.{IsSound-accepted}
use Rattle.pool_core.proofs.Answering.{stale_fault-none}
use Rattle.search_nodes.proofs.Grounds.{HasGrounds-set}
use Rattle.search_nodes.proofs.Completing.{TakesRound-round, TakesRound-limits, TakesRound-fate}
use Rattle.search_view.proofs.Offers.{round_at}

-- Where no fault is found

or-neither : (a b : Bool) → (a || b) ≡ false → (a ≡ false) × (b ≡ false)
or-neither true b h = absurd (let bad : true ≡ false = h in cc)
or-neither false b h = (refl, h)

unpriced : (round : Round) (k : ℕ) → k < length round.found → is_priced (Some round) k ≡ false → slice_get round.found k ≡ Some None
unpriced round k within h = by_cases (get_or round.found k None) (slice_get-get_or round.found k None within)
  where
    by_cases : (o : Option Found) → slice_get round.found k ≡ Some o → slice_get round.found k ≡ Some None
    by_cases None is = is
    by_cases (Some found) is =
        let has : is_priced (Some round) k ≡ true = ap (λ (x : Option (Option Found)). is_some (option_and_then (λ y. y) x)) is in
        absurd (let bad : true ≡ false = sym has ∙ h in cc)

without_cut : (o : Option HeldCut) → is_some o ≡ false → o ≡ None
without_cut None h = refl
without_cut (Some cut) h = absurd (let bad : true ≡ false = h in cc)

no_unfit : (o : Option Unfit) → option_map offered.Unfit o ≡ None → o ≡ None
no_unfit None h = refl
no_unfit (Some x) h = absurd (cc)

-- what is found fits the round, where no fault is found under the node's round
fits_at : (p : Parts) (o : Option Node) (node : Node) (round : Round) (k : ℕ) (found : Priced) → o ≡ Some node → node.round ≡ Some round
    → unfit_in p o k found ≡ None → priced_fault p round.prices k (restriction_of node) found ≡ None
fits_at p o node round k found at is h =
    let there : unfit_in p (Some node) k found ≡ None = subst (λ (x : Option Node). unfit_in p x k found ≡ None) at h in
    let here : option_map offered.Unfit (priced_fault p round.prices k (restriction_of node) found) ≡ None =
    subst (λ (x : Option Round). option_and_then (λ r. option_map offered.Unfit (priced_fault p r.prices k (restriction_of node) found)) x ≡ None) is there in
    no_unfit (priced_fault p round.prices k (restriction_of node) found) here

-- the offer fits the round of a node
pub record MayOffer (s : State) (offer : Offer) : Type 0 where
  pub node : Node
  pub round : Round
  pub fits : FitsRound s offer node round

-- where no fault is found, the offer fits the round of its node
pub offer_fault-none : (s : State) (offer : Offer) → IsSound s → offer_fault s offer ≡ None → MayOffer s offer
unfolding offer_fault
offer_fault-none s offer sound h =
    let stale = stale_fault offered.Spent offered.Stale s offer.node offer.version in
    let demand = when (nat_le (length s.problem.demands) offer.demand.0) (offered.NoDemand (length s.problem.demands)) in
    let known = when (is_priced (round_of s offer.node) offer.demand.0 || has_cut (slice_get s.nodes offer.node.0)) offered.Already in
    let unfit = unfit_in s.problem (slice_get s.nodes offer.node.0) offer.demand.0 offer.found in
    let one = or_else-none stale (demand or_else known or_else unfit) h in
    let two = or_else-none demand (known or_else unfit) one.1 in
    let three = or_else-none known unfit two.1 in
    let is = stale_fault-none offered.Spent offered.Stale s offer.node offer.version one.0 in
    let v = is.has_version in
    let small : nat_le (length s.problem.demands) offer.demand.0 ≡ false = when-none _ _ two.0 in
    let below : offer.demand.0 < length s.problem.demands = grind (arith, nat_tests) in
    let both = or-neither _ _ (when-none _ _ three.0) in
    let at : round_of s offer.node ≡ Some v.round = ap (option_and_then (λ (node : Node). node.round)) v.is_node ∙ v.is_round in
    let not_priced : is_priced (Some v.round) offer.demand.0 ≡ false = subst (λ (o : Option Round). is_priced o offer.demand.0 ≡ false) at both.0 in
    let no_cut : has_cut (Some v.node) ≡ false = subst (λ (o : Option Node). has_cut o ≡ false) v.is_node both.1 in
    let sound_round = (round_at s offer.node.0 v.node v.round sound v.is_node v.is_round).1 in
    record {
      node = v.node;
      round = v.round;
      fits = record {
        not_spent = is.not_spent;
        is_node = v.is_node;
        is_round = v.is_round;
        version = v.is_version;
        is_demand = below;
        not_priced = unpriced v.round offer.demand.0 (let c = sound_round.count in omega arith) not_priced;
        no_cut = without_cut v.node.cut no_cut;
        fits = fits_at s.problem (slice_get s.nodes offer.node.0) v.node v.round offer.demand.0 offer.found v.is_node v.is_round three.1;
      };
    }

-- the same where the fault is told of an equal state
pub may-offer : (s now : State) (offer : Offer) → IsReachable s → s ≡ now → offer_fault now offer ≡ None → MayOffer s offer
may-offer s now offer h is none = offer_fault-none s offer (IsReachable-sound s h) (subst (λ (t : State). offer_fault t offer ≡ None) (sym is) none)

-- Refusals

-- it changes nothing
abbrev IsRefusal : Offered → Type 0
IsRefusal offered.CutTaken = ⊥
IsRefusal (offered.Accepted left) = ⊥
IsRefusal (offered.Spent x) = ⊤
IsRefusal (offered.Stale x) = ⊤
IsRefusal (offered.NoDemand x) = ⊤
IsRefusal offered.Already = ⊤
IsRefusal (offered.Unfit x) = ⊤

refusal_when : (c : Bool) (refusal : Offered) → IsRefusal refusal → IfSome (when c refusal) IsRefusal
refusal_when true refusal is = is
refusal_when false refusal is = tt

refusal_or : (a b : Option Offered) → IfSome a IsRefusal → IfSome b IsRefusal → IfSome (a or_else b) IsRefusal
refusal_or None b x y = y
refusal_or (Some refusal) b x y = x

refusal_unfit : (o : Option Unfit) → IfSome (option_map offered.Unfit o) IsRefusal
refusal_unfit None = tt
refusal_unfit (Some x) = tt

refusal_in : (p : Parts) (o : Option Node) (k : ℕ) (found : Priced) → IfSome (unfit_in p o k found) IsRefusal
refusal_in p None k found = tt
refusal_in p (Some node) k found = in_round node.round
  where
    in_round : (o : Option Round) → IfSome (option_and_then (λ r. option_map offered.Unfit (priced_fault p r.prices k (restriction_of node) found)) o) IsRefusal
    in_round None = tt
    in_round (Some round) = refusal_unfit (priced_fault p round.prices k (restriction_of node) found)

refusals : (s : State) (offer : Offer) → IfSome (offer_fault s offer) IsRefusal
unfolding offer_fault
refusals s offer =
    let no_version = not (is_version (version_in (round_of s offer.node)) offer.version) in
    let spent = when (is_spent s) (offered.Spent s.examined) in
    let stale = when no_version (offered.Stale (version_in (round_of s offer.node))) in
    let past = nat_le (length s.problem.demands) offer.demand.0 in
    let demand = when past (offered.NoDemand (length s.problem.demands)) in
    let is_known = is_priced (round_of s offer.node) offer.demand.0 || has_cut (slice_get s.nodes offer.node.0) in
    let known = when is_known offered.Already in
    let unfit = unfit_in s.problem (slice_get s.nodes offer.node.0) offer.demand.0 offer.found in
    refusal_or (spent or_else stale) (demand or_else known or_else unfit)
    (refusal_or spent stale (refusal_when (is_spent s) (offered.Spent s.examined) tt) (refusal_when no_version (offered.Stale (version_in (round_of s offer.node))) tt))
    (refusal_or demand (known or_else unfit) (refusal_when past (offered.NoDemand (length s.problem.demands)) tt)
    (refusal_or known unfit (refusal_when is_known offered.Already tt) (refusal_in s.problem (slice_get s.nodes offer.node.0) offer.demand.0 offer.found)))

-- a fault is a refusal
pub offer_fault-refusal : (s : State) (offer : Offer) (refusal : Offered) → offer_fault s offer ≡ Some refusal → OfferStep s offer refusal s
offer_fault-refusal s offer refusal h = by_cases refusal (subst (λ (o : Option Offered). IfSome o IsRefusal) h (refusals s offer)) h
  where
    by_cases : (x : Offered) → IsRefusal x → offer_fault s offer ≡ Some x → OfferStep s offer x s
    by_cases offered.CutTaken is e = absurd is
    by_cases (offered.Accepted left) is e = absurd is
    by_cases (offered.Spent x) is e = (e, refl)
    by_cases (offered.Stale x) is e = (e, refl)
    by_cases (offered.NoDemand x) is e = (e, refl)
    by_cases offered.Already is e = (e, refl)
    by_cases (offered.Unfit x) is e = (e, refl)

-- Places

module _ (s : State) (id : BranchId) (old new : Node) (before after : Round) (is : slice_get s.nodes id.0 ≡ Some old)
    (was : old.round ≡ Some before) (now : new.round ≡ Some after) (same : after.slot ≡ before.slot) where
  slot-there : (slot n : ℕ) → IsTakenBy s slot n → IsTakenBy (with_node s id new) slot n
  slot-there slot n t = elim (same_or_other n id.0) [
    | inr ne ↦ (t.0, slice_get-set_other s.nodes id.0 n new ne ∙ t.1, t.2)
    | inl e ↦
        let at : slice_get s.nodes id.0 ≡ Some t.0 = subst (λ (k : ℕ). slice_get s.nodes k ≡ Some t.0) e t.1 in
        let node : t.0 ≡ old = one_at s.nodes id.0 t.0 old at is in
        let had : before.slot ≡ slot = subst (λ (o : Option Round). IsSomeAnd o (λ r. r.slot ≡ slot)) was (subst (HasSlot slot) node t.2) in
        subst (λ (k : ℕ). IsTakenBy (with_node s id new) slot k) (sym e)
        (new, slice_get-set_same s.nodes id.0 old new is, subst (λ (o : Option Round). IsSomeAnd o (λ r. r.slot ≡ slot)) (sym now) (same ∙ had))
  ]

  slot-back : (slot : ℕ) → IsTaken (with_node s id new) slot → IsTaken s slot
  slot-back slot t = elim (slice_get-set_cases s.nodes id.0 t.0 new t.1 t.2) [
    | inr w ↦ (t.0, t.1, w.1, t.3)
    | inl w ↦
        let has : after.slot ≡ slot = subst (λ (o : Option Round). IsSomeAnd o (λ r. r.slot ≡ slot)) now (subst (HasSlot slot) w.1 t.3) in
        (id.0, old, is, subst (λ (o : Option Round). IsSomeAnd o (λ r. r.slot ≡ slot)) (sym was) (sym same ∙ has))
  ]

  -- a node is replaced whose round keeps its slot: the places stay, whatever is counted
  pub HasPlaces-slot : (places : List Slot) (accepted : ℕ) → HasPlaces s places → HasPlaces (record s { nodes = set s.nodes id.0 new; accepted = accepted }) places
  HasPlaces-slot places accepted h = record {
    count = h.count;
    total = (
        let e = sum_by-set_at rounds_in s.nodes id.0 old new is in
        let one : rounds_in old ≡ 1 = ap rounds_by was in
        let other : rounds_in new ≡ 1 = ap rounds_by now in
        let t = h.total in
        omega arith
        );
    taken = λ slot n x. slot-there slot n.0 (h.taken slot n x);
    free = λ slot place x t. h.free slot place x (slot-back slot t);
    slot_is = h.slot_is;
    demands = h.demands;
    prices = h.prices;
  }

-- The node that is read and written back

module _ (s : State) (offer : Offer) (may : MayOffer s offer) (item : Node) (read : item ≡ get_or s.nodes offer.node.0 item) where
  item-is : item ≡ may.node
  item-is = read ∙ get_or_from_slice_get s.nodes offer.node.0 may.node item may.fits.is_node

  -- the node that is read has the limits of the node that the offer is for
  pub put-limits : item.limits ≡ may.node.limits
  put-limits = ap (λ (x : Node). x.limits) item-is

  -- the node that an offer fits is neither closed nor divided
  pub offer-undone : IsSound s → may.node.fate ≡ Undone
  offer-undone sound = (round_at s offer.node.0 may.node may.round sound may.fits.is_node may.fits.is_round).0

  -- the number of the node that an offer fits is below the count of nodes
  pub offer-within : offer.node.0 < length s.nodes
  offer-within = slice_get_within s.nodes offer.node.0 may.node may.fits.is_node

  -- the node that is read for an offer is a sound one
  pub put-sound : IsSound s → IsSoundNode s.problem s.cuts item
  put-sound sound = subst (IsSoundNode s.problem s.cuts) (sym item-is) (node_at s offer.node.0 may.node sound may.fits.is_node)

  -- A cut

  module _ (reached : List Bool) (is_set : offer.found ≡ priced.NoPath reached) (new : Node)
      (written : new ≡ record item { cut = Some (record { demand = offer.demand; reached = reached }) }) where
    cut-is : new ≡ record may.node { cut = Some (record { demand = offer.demand; reached = reached }) }
    cut-is = written ∙ ap (λ (x : Node). let y : Node = record x { cut = Some (record { demand = offer.demand; reached = reached }) } in y) item-is

    -- the read node written back with the offered set as its cut is the event
    pub takes-cut : TakesCut s offer (with_node s offer.node new)
    takes-cut = record {
      node = may.node;
      round = may.round;
      fits_round = may.fits;
      reached = reached;
      is_set = is_set;
      becomes = ap (with_node s offer.node) cut-is;
    }

    -- the pool stays one when the node takes the offered set as its cut
    pub cut-kept : (table : CutProblem) (grounds : List (Option Kept)) (places : List Slot) → IsKeptPool s table grounds places → IsKeptPool (with_node s offer.node new) table grounds places
    cut-kept table grounds places h = record {
      pool = record {
        reachable = IsReachable-step s (with_node s offer.node new) (Offering offer) (to_offering offered.CutTaken) h.pool.reachable takes-cut;
        some_budget = h.pool.some_budget;
        budget = h.pool.budget;
        has_places = HasPlaces-slot s offer.node may.node new may.round may.round may.fits.is_node may.fits.is_round (ap (λ (x : Node). x.round) cut-is ∙ may.fits.is_round) refl
            places s.accepted h.pool.has_places;
      };
      table_is = h.table_is;
      cuts_are = h.cuts_are;
      has_grounds = HasGrounds-set s.problem s.nodes grounds offer.node.0 item new offer-within read (ap (λ (x : Node). x.limits) written) (ap (λ (x : Node). x.fate) written) h.has_grounds;
    }

  -- A path

  module _ (found : Found) (potentials : List ℕ) (is_path : offer.found ≡ priced.Path found.path found.price potentials) where
    -- the read node's round has no path for the demand yet, and the offered one is least under its prices
    pub put-round : IsSomeAnd item.round (λ round. (slice_get round.found offer.demand.0 ≡ Some None)
        × IsLeastPath s.problem round.prices offer.demand.0 (restriction_of item) found.path found.price)
    put-round =
        let r = restriction_of may.node in
        let least : IsLeastPath s.problem may.round.prices offer.demand.0 r found.path found.price =
        IsPriced-priced_fault s.problem may.round.prices offer.demand.0 r (priced.Path found.path found.price potentials)
        (subst (λ (x : Priced). priced_fault s.problem may.round.prices offer.demand.0 r x ≡ None) is_path may.fits.fits) in
        let there : IsSomeAnd may.node.round (λ round. (slice_get round.found offer.demand.0 ≡ Some None) × IsLeastPath s.problem round.prices offer.demand.0 r found.path found.price) =
        subst (λ (o : Option Round). IsSomeAnd o (λ round. (slice_get round.found offer.demand.0 ≡ Some None) × IsLeastPath s.problem round.prices offer.demand.0 r found.path found.price))
        (sym may.fits.is_round) (may.fits.not_priced, least) in
        subst (λ (x : Node). IsSomeAnd x.round (λ round. (slice_get round.found offer.demand.0 ≡ Some None) × IsLeastPath s.problem round.prices offer.demand.0 (restriction_of x) found.path found.price))
        (sym item-is) there

    module _ (left count : ℕ) (new : Node) (counted : IfSome item.round (λ round. left ≡ left_of (with_found round offer.demand.0 found)))
        (taken : IfSome item.round (λ round. TakesRound s.problem s.cuts item (with_found round offer.demand.0 found) new)) (risen : count ≡ suc s.accepted) where
      at-node : IfSome may.node.round (λ round. left ≡ left_of (with_found round offer.demand.0 found))
      at-node = subst (λ (x : Node). IfSome x.round (λ round. left ≡ left_of (with_found round offer.demand.0 found))) item-is counted

      takes : TakesRound s.problem s.cuts may.node (with_found may.round offer.demand.0 found) new
      takes =
          let there : IfSome may.node.round (λ round. TakesRound s.problem s.cuts may.node (with_found round offer.demand.0 found) new) =
          subst (λ (x : Node). IfSome x.round (λ round. TakesRound s.problem s.cuts x (with_found round offer.demand.0 found) new)) item-is taken in
          subst (λ (o : Option Round). IfSome o (λ round. TakesRound s.problem s.cuts may.node (with_found round offer.demand.0 found) new)) may.fits.is_round there

      abbrev after : State
      after = record s { nodes = set s.nodes offer.node.0 new; accepted = count }

      -- the read node written back with the path in its round, and one more path accepted, is the event
      pub accepts : Accepts s offer left after
      accepts = record {
        node = may.node;
        round = may.round;
        fits_round = may.fits;
        found = found;
        potentials = potentials;
        is_path = is_path;
        left_is = subst (λ (o : Option Round). IfSome o (λ round. left ≡ left_of (with_found round offer.demand.0 found))) may.fits.is_round at-node;
        after = new;
        takes = takes;
        becomes = ap (λ (n : ℕ). let t : State = record s { nodes = set s.nodes offer.node.0 new; accepted = n } in t) risen;
      }

      -- the pool stays one when the node's round takes the offered path
      pub accepted-kept : (table : CutProblem) (grounds : List (Option Kept)) (places : List Slot) → IsKeptPool s table grounds places → IsKeptPool after table grounds places
      accepted-kept table grounds places h = record {
        pool = record {
          reachable = IsReachable-step s after (Offering offer) (to_offering (offered.Accepted left)) h.pool.reachable accepts;
          some_budget = h.pool.some_budget;
          budget = h.pool.budget;
          has_places = HasPlaces-slot s offer.node may.node new may.round (with_found may.round offer.demand.0 found) may.fits.is_node may.fits.is_round
              (TakesRound-round s.problem s.cuts may.node (with_found may.round offer.demand.0 found) new takes) refl places count h.pool.has_places;
        };
        table_is = h.table_is;
        cuts_are = h.cuts_are;
        has_grounds = HasGrounds-set s.problem s.nodes grounds offer.node.0 item new offer-within read
            (TakesRound-limits s.problem s.cuts may.node (with_found may.round offer.demand.0 found) new takes ∙ ap (λ (x : Node). x.limits) (sym item-is))
            (TakesRound-fate s.problem s.cuts may.node (with_found may.round offer.demand.0 found) new takes ∙ ap (λ (x : Node). x.fate) (sym item-is)) h.has_grounds;
      }

      -- one more accepted path can be counted
      pub accepted-small : (places : List Slot) → IsPool s places → count < 2 ^ 64
      accepted-small places h =
          let reachable = IsReachable-step s after (Offering offer) (to_offering (offered.Accepted left)) h.reachable accepts in
          IsSound-accepted after (IsReachable-sound after reachable) h.budget
