-- Where no fault is found, the event may come.
use Rattle.search_nodes.specs.declared.slot.Slot.{Slot}
use Rattle.std.proofs.Common.{◌≡◌, ℕ, ◌<◌, ◌≤◌, inl, inr, Bool, true, false, not, List, length, get_or, Option, Some, None, slice_get, refl, sym, ap, subst, ◌∙◌, arith}
use Rattle.std.specs.Prelude.{option_map, option_and_then, IsSomeAnd}
use Rattle.std.proofs.lemmas.Bool.{eqb-true}
use Rattle.std.proofs.lemmas.Bool.Decides.{nat_tests}
use Rattle.std.proofs.lemmas.Option.{slice_get_within, get_or_from_slice_get}
use Rattle.plan_base.specs.declared.ids.DemandId.{DemandId}
use Rattle.plan_base.specs.declared.ids.BranchId.{BranchId}
use Rattle.plan_base.specs.First.{◌or_else◌, when}
use Rattle.plan_base.proofs.Bools.{not-false}
use Rattle.plan_base.proofs.FirstFault.{or_else-none, when-none}
use Rattle.search_machine.specs.declared.answers.Settle.{Settle}
use Rattle.search_machine.specs.declared.answers.Settle.TheVariants as settle
use Rattle.search_machine.specs.State.{Round, Node, State, round_of, rounds_by, rounds_in}
use Rattle.search_machine.specs.Changes.{is_spent, version_in, is_version, first_gap, stale_fault, with_node}
use Rattle.search_machine.specs.Gathering.{first_ungathered, IsGathered}
use Rattle.search_machine.specs.Settling.{settle_fault, Settles, SettleStep}
use Rattle.search_machine.specs.Opening.{IsTaken}
use Rattle.search_machine.specs.Machine.{Settling, to_settling}
use Rattle.search_machine.specs.declared.limits.TheConstants.{MAX_BUDGET}
use Rattle.pool_core.specs.Valuing.{IsCompleteAt, IsToSettle}
use Rattle.search_view.specs.Views.{IsTakenBy, HasPlaces, IsPool}
use Rattle.search_machine.proofs.Lists.{sum_by-set_at, slice_get-set_same, slice_get-set_other, slice_get-set_cases}
use Rattle.search_machine.proofs.Frames.{same_or_other, one_at}
use Rattle.search_machine.proofs.Runs.{IsReachable-step}
use Rattle.search_view.proofs.Answering.{first_gap-none}

-- while the budget is not spent, fewer nodes are examined than it allows
pub is_spent-false : (s : State) → is_spent s ≡ false → s.examined < s.budget
is_spent-false s h = grind (arith, nat_tests)

-- the node with an active round of the version
pub record HasVersion (s : State) (id : BranchId) (version : ℕ) : Type 0 where
  pub node : Node
  pub round : Round
  pub is_node : slice_get s.nodes id.0 ≡ Some node
  pub is_round : node.round ≡ Some round
  pub is_version : round.version ≡ version

version_of-round : (o : Option Round) (version : ℕ) → is_version (version_in o) version ≡ true → (round : Round) × (o ≡ Some round) × (round.version ≡ version)
version_of-round None version h = let bad : false ≡ true = h in absurd (cc)
version_of-round (Some round) version h = (round, refl, eqb-true _ _ h)

version_of-node : (o : Option Node) (version : ℕ) → is_version (version_in (option_and_then (λ node. node.round) o)) version ≡ true
    → (node : Node) × (round : Round) × (o ≡ Some node) × (node.round ≡ Some round) × (round.version ≡ version)
version_of-node None version h = let bad : false ≡ true = h in absurd (cc)
version_of-node (Some node) version h = let r = version_of-round node.round version h in (node, r.0, refl, r.1, r.2)

-- not stale: the budget is not spent, and the version is active
pub record IsCurrent (s : State) (id : BranchId) (version : ℕ) : Type 0 where
  pub not_spent : s.examined < s.budget
  pub has_version : HasVersion s id version

-- where a call is neither spent nor stale, the budget is not spent, and the node has a round of the version
pub stale_fault-none : {F : Type 0} (spent : ℕ → F) (stale : Option ℕ → F) (s : State) (id : BranchId) (version : ℕ) → stale_fault spent stale s id version ≡ None → IsCurrent s id version
stale_fault-none spent stale s id version h =
    let both = or_else-none (when (is_spent s) (spent s.examined)) (when (not (is_version (version_in (round_of s id)) version)) (stale (version_in (round_of s id)))) h in
    let v = version_of-node (slice_get s.nodes id.0) version (not-false _ (when-none _ _ both.1)) in
    record {
      not_spent = is_spent-false s (when-none _ _ both.0);
      has_version = record { node = v.0; round = v.1; is_node = v.2; is_round = v.3; is_version = v.4 };
    }

-- what a function maps to nothing is nothing
pub option_map-none : {A B : Type 0} (f : A → B) (o : Option A) → option_map f o ≡ None → o ≡ None
option_map-none f None h = refl
option_map-none f (Some x) h = absurd (cc)

-- where a call is neither spent nor stale, and no demand is left, the round of the version is complete
pub complete_fault-none : {F : Type 0} (spent : ℕ → F) (stale : Option ℕ → F) (incomplete : DemandId → F) (s : State) (id : BranchId) (version : ℕ) → stale_fault spent stale s id version ≡ None
    → option_map incomplete (first_gap (round_of s id)) ≡ None → IsCompleteAt s id version
complete_fault-none spent stale incomplete s id version fresh full =
    let is = stale_fault-none spent stale s id version fresh in
    let v = is.has_version in
    let at : round_of s id ≡ Some v.round = ap (option_and_then (λ (node : Node). node.round)) v.is_node ∙ v.is_round in
    let complete = first_gap-none v.round (sym (ap first_gap at) ∙ option_map-none incomplete (first_gap (round_of s id)) full) in
    record { node = v.node; round = v.round; is_complete = assumption (is, v, complete) }

-- the node has a gathered round of the version
pub record HasGathered (s : State) (id : BranchId) (version : ℕ) : Type 0 where
  pub node : Node
  pub round : Round
  pub is_gathered : IsGathered s id version node round

-- and where each path is a column besides, it is gathered
pub gathered_fault-none : {F : Type 0} (spent : ℕ → F) (stale : Option ℕ → F) (incomplete ungathered : DemandId → F) (s : State) (id : BranchId) (version : ℕ) → stale_fault spent stale s id version ≡ None
    → option_map incomplete (first_gap (round_of s id)) ≡ None → option_map ungathered (first_ungathered s.columns (round_of s id)) ≡ None → HasGathered s id version
gathered_fault-none spent stale incomplete ungathered s id version fresh full all =
    let h = complete_fault-none spent stale incomplete s id version fresh full in
    let at : round_of s id ≡ Some h.round = ap (option_and_then (λ (node : Node). node.round)) h.is_complete.is_node ∙ h.is_complete.is_round in
    let gathered = sym (ap (first_ungathered s.columns) at) ∙ option_map-none ungathered (first_ungathered s.columns (round_of s id)) all in
    record { node = h.node; round = h.round; is_gathered = record { complete_round = h.is_complete; gathered_all = gathered } }

-- no fault: the round is gathered
pub settle_fault-none : (s : State) (id : BranchId) (version : ℕ) → settle_fault s id version ≡ None → HasGathered s id version
unfolding settle_fault
settle_fault-none s id version h =
    let one = or_else-none (stale_fault settle.Spent settle.Stale s id version) (option_map settle.Incomplete (first_gap (round_of s id)) or_else option_map settle.Ungathered (first_ungathered s.columns (round_of s id))) h in
    let two = or_else-none (option_map settle.Incomplete (first_gap (round_of s id))) (option_map settle.Ungathered (first_ungathered s.columns (round_of s id))) one.1 in
    gathered_fault-none settle.Spent settle.Stale settle.Incomplete settle.Ungathered s id version one.0 two.0 two.1

-- a refusal is none of the answers that are no refusals
never : (a : Settle) → ((x : ℕ) → settle.Spent x ≡ a → ⊥) → ((x : Option ℕ) → settle.Stale x ≡ a → ⊥) → ((x : DemandId) → settle.Incomplete x ≡ a → ⊥) → ((x : DemandId) → settle.Ungathered x ≡ a → ⊥)
    → (spent stale : Bool) (x : ℕ) (y : Option ℕ) (o q : Option DemandId) → ((when spent (settle.Spent x) or_else when stale (settle.Stale y)) or_else option_map settle.Incomplete o or_else option_map settle.Ungathered q) ≡ Some a → ⊥
never a s1 s2 s3 s4 true stale x y o q h = s1 x (let e : Some (settle.Spent x) ≡ Some a = h in cc)
never a s1 s2 s3 s4 false true x y o q h = s2 y (let e : Some (settle.Stale y) ≡ Some a = h in cc)
never a s1 s2 s3 s4 false false x y (Some k) q h = s3 k (let e : Some (settle.Incomplete k) ≡ Some a = h in cc)
never a s1 s2 s3 s4 false false x y None (Some k) h = s4 k (let e : Some (settle.Ungathered k) ≡ Some a = h in cc)
never a s1 s2 s3 s4 false false x y None None h = let bad : ◌≡◌ {A = Option Settle} None (Some a) = h in cc

-- a fault is a refusal
pub settle_fault-refusal : (s : State) (id : BranchId) (version : ℕ) (refusal : Settle) → settle_fault s id version ≡ Some refusal → SettleStep s id version refusal s
unfolding settle_fault
settle_fault-refusal s id version (settle.Spent x) h = (h, refl)
settle_fault-refusal s id version (settle.Stale x) h = (h, refl)
settle_fault-refusal s id version (settle.Incomplete x) h = (h, refl)
settle_fault-refusal s id version (settle.Ungathered x) h = (h, refl)
settle_fault-refusal s id version (settle.Improves old new) h =
    absurd (never (settle.Improves old new) (λ x. λ e. cc) (λ x. λ e. cc) (λ x. λ e. cc) (λ x. λ e. cc) (is_spent s) (not (is_version (version_in (round_of s id)) version)) s.examined (version_in (round_of s id)) (first_gap (round_of s id)) (first_ungathered s.columns (round_of s id)) h)
settle_fault-refusal s id version settle.Done h =
    absurd (never settle.Done (λ x. λ e. cc) (λ x. λ e. cc) (λ x. λ e. cc) (λ x. λ e. cc) (is_spent s) (not (is_version (version_in (round_of s id)) version)) s.examined (version_in (round_of s id)) (first_gap (round_of s id)) (first_ungathered s.columns (round_of s id)) h)

-- Places

-- a slot is taken as before where a node is replaced that keeps its round
IsTaken-there : (s : State) (id : BranchId) (old new : Node) → slice_get s.nodes id.0 ≡ Some old → new.round ≡ old.round → (slot n : ℕ) → IsTakenBy s slot n → IsTakenBy (with_node s id new) slot n
IsTaken-there s id old new is same slot n t = elim (same_or_other n id.0) [
  | inr ne ↦ (t.0, slice_get-set_other s.nodes id.0 n new ne ∙ t.1, t.2)
  | inl e ↦
      let at : slice_get s.nodes id.0 ≡ Some t.0 = subst (λ (k : ℕ). slice_get s.nodes k ≡ Some t.0) e t.1 in
      let node : t.0 ≡ old = one_at s.nodes id.0 t.0 old at is in
      let had : IsSomeAnd old.round (λ r. r.slot ≡ slot) = subst (λ (x : Node). IsSomeAnd x.round (λ r. r.slot ≡ slot)) node t.2 in
      subst (λ (k : ℕ). IsTakenBy (with_node s id new) slot k) (sym e)
      (new, slice_get-set_same s.nodes id.0 old new is, subst (λ (o : Option Round). IsSomeAnd o (λ r. r.slot ≡ slot)) (sym same) had)
]

IsTaken-back : (s : State) (id : BranchId) (old new : Node) → slice_get s.nodes id.0 ≡ Some old → new.round ≡ old.round → (slot : ℕ) → IsTaken (with_node s id new) slot → IsTaken s slot
IsTaken-back s id old new is same slot t = elim (slice_get-set_cases s.nodes id.0 t.0 new t.1 t.2) [
  | inr w ↦ (t.0, t.1, w.1, t.3)
  | inl w ↦
      let has : IsSomeAnd new.round (λ r. r.slot ≡ slot) = subst (λ (x : Node). IsSomeAnd x.round (λ r. r.slot ≡ slot)) w.1 t.3 in
      (id.0, old, is, subst (λ (o : Option Round). IsSomeAnd o (λ r. r.slot ≡ slot)) same has)
]

-- a node is replaced that keeps its round: the places stay
pub HasPlaces-set : (s : State) (places : List Slot) (id : BranchId) (old new : Node) → slice_get s.nodes id.0 ≡ Some old → new.round ≡ old.round
    → HasPlaces s places → HasPlaces (with_node s id new) places
HasPlaces-set s places id old new is same h = record {
  count = h.count;
  total = (let e = sum_by-set_at rounds_in s.nodes id.0 old new is in let r : rounds_in new ≡ rounds_in old = ap rounds_by same in let t = h.total in omega arith);
  taken = λ slot n x. IsTaken-there s id old new is same slot n.0 (h.taken slot n x);
  free = λ slot place x t. h.free slot place x (IsTaken-back s id old new is same slot t);
  slot_is = h.slot_is;
  demands = h.demands;
  prices = h.prices;
}

-- a settling keeps the pool, with the same slots
pub settle-IsPool : (s t : State) (places : List Slot) (id : BranchId) (version : ℕ) → IsPool s places → Settles s id version t → IsPool t places
settle-IsPool s t places id version h e = record {
  some_budget = subst (λ (x : State). 0 < x.budget) (sym e.becomes) h.some_budget;
  budget = subst (λ (x : State). x.budget ≤ MAX_BUDGET) (sym e.becomes) h.budget;
  reachable = IsReachable-step s t (Settling id version) (to_settling settle.Done) h.reachable e;
  has_places = subst (λ (x : State). HasPlaces x places) (sym e.becomes) (HasPlaces-set s places id e.node (record e.node { settled = true }) e.is_gathered.complete_round.is_node refl h.has_places);
}

-- the event, where the node that was read is written back with its mark
pub settles-written : (s : State) (id : BranchId) (version : ℕ) (item new : Node) → IsToSettle s id version
    → item ≡ get_or s.nodes id.0 item → new ≡ record item { settled = true } → Settles s id version (with_node s id new)
settles-written s id version item new h read written =
    let same : item ≡ h.node = read ∙ get_or_from_slice_get s.nodes id.0 h.node item h.is_gathered.complete_round.is_node in
    record {
      node = h.node;
      round = h.round;
      is_gathered = h.is_gathered;
      no_more = h.no_more;
      becomes = ap (with_node s id) (written ∙ ap (λ (x : Node). let y : Node = record x { settled = true } in y) same);
    }

-- the number of a node that may be settled is below the count of nodes
pub to_settle-within : (s : State) (id : BranchId) (version : ℕ) → IsToSettle s id version → id.0 < length s.nodes
to_settle-within s id version h = slice_get_within s.nodes id.0 h.node h.is_gathered.complete_round.is_node
