-- A pool in which a node is closed, and its round and its restriction are let go, stays one.
use Rattle.search_nodes.specs.declared.slot.Slot.{Slot}
use Rattle.std.proofs.Common.{[], ◌≡◌, ℕ, suc, ◌<◌, List, length, set, get_or, Option, Some, None, slice_get, refl, sym, ap, ap₂, subst, ◌∙◌, true}
use Rattle.std.specs.Prelude.{IfSome}
use Rattle.std.proofs.lemmas.List.{append-nil}
use Rattle.std.proofs.lemmas.Option.{slice_get_within, get_or_from_slice_get}
use Rattle.plan_base.specs.declared.ids.BranchId.{BranchId}
use Rattle.cut_values.specs.Numbers.{CutProblem}
use Rattle.search_nodes.specs.Grounds.{Kept}
use Rattle.proof_tree.specs.declared.tree.Evidence.{Evidence}
use Rattle.search_machine.specs.State.{Round, Node, State, state_of}
use Rattle.search_machine.specs.Changes.{is_open_state, examined_with}
use Rattle.search_machine.specs.Closing.{closed_by}
use Rattle.search_machine.specs.Machine.{IsReachable}
use Rattle.search_nodes.specs.Slots.{given_back}
use Rattle.search_view.specs.Views.{IsKeptPool, closed_at}
use Rattle.search_nodes.specs.Rounds.{evidence_for}
use Rattle.search_nodes.specs.declared.reason.Reason.{Reason}
use Rattle.pool_core.proofs.Closings.{open_state-leaf}
use Rattle.search_machine.proofs.Runs.{IsReachable-sound}
use Rattle.pool_core.proofs.EndedRounds.{HasEnded, HasPlaces-ended, round-within, HasGrounds-cleared}

module _ (s : State) (table : CutProblem) (grounds : List (Option Kept)) (places : List Slot) (id : BranchId) (old : Node) (found : Evidence)
    (h : IsKeptPool s table grounds places) (is : slice_get s.nodes id.0 ≡ Some old) where
  abbrev after : State
  after = examined_with s id (closed_by found old)

  has_ended : HasEnded s after id.0 old (closed_by found old) []
  has_ended = record {
    is_node = is;
    no_round = refl;
    none_more = λ j m at. let bad : ◌≡◌ {A = Option Node} None (Some m) = at in absurd (cc);
    nodes = sym (append-nil (set s.nodes id.0 (closed_by found old)));
    problem = refl;
    cuts = refl;
  }

  -- the slot of the closed node's round is below the count of slots
  pub place-within : (round : Round) → old.round ≡ Some round → round.slot < length places
  place-within round had = round-within s after id.0 old (closed_by found old) [] has_ended (IsReachable-sound s h.pool.reachable) places h.pool.has_places round had

  -- the pool stays one when a node is closed, its region let go and its slot given back, if that state is reachable
  pub closed-kept : IsReachable after → IsKeptPool after table (set grounds id.0 None) (given_back places old.round)
  closed-kept reachable = record {
    pool = record {
      some_budget = h.pool.some_budget;
      budget = h.pool.budget;
      reachable = reachable;
      has_places = HasPlaces-ended s after id.0 old (closed_by found old) [] has_ended (IsReachable-sound s h.pool.reachable) places h.pool.has_places;
    };
    table_is = h.table_is;
    cuts_are = h.cuts_are;
    has_grounds = HasGrounds-cleared s.problem s.nodes grounds id.0 old (closed_by found old) is refl h.has_grounds;
  }

-- the same on the pool's own fields: the node that is read is written back closed
module _ (s : State) (table : CutProblem) (grounds : List (Option Kept)) (places : List Slot) (id : BranchId) (why : Reason)
    (h : IsKeptPool s table grounds places) (is_open : is_open_state (state_of s id) ≡ true) (item : Node) (read : item ≡ get_or s.nodes id.0 item) where
  is_item : slice_get s.nodes id.0 ≡ Some item
  is_item =
      let leaf = open_state-leaf s id is_open in
      let same : item ≡ leaf.node = read ∙ get_or_from_slice_get s.nodes id.0 leaf.node item leaf.is_node in
      leaf.is_node ∙ ap (λ (x : Node). Some x) (sym same)

  -- the round of the node that is read, if it has one, has a slot below the count of slots
  pub close-place : (round : Option Round) → round ≡ item.round → IfSome round (λ r. r.slot < length places)
  close-place None is = tt
  close-place (Some round) is = place-within s table grounds places id item (evidence_for item why) h is_item round (sym is)

  -- the number of the open leaf that is closed is below the count of kept regions
  pub close-ground : id.0 < length grounds
  close-ground = subst (λ (n : ℕ). id.0 < n) (sym h.has_grounds.count) (slice_get_within s.nodes id.0 item is_item)

  is_closed : closed_at s id why (slice_get s.nodes id.0) ≡ examined_with s id (closed_by (evidence_for item why) item)
  is_closed = ap (closed_at s id why) is_item

  -- the read node written back closed, with one more node examined, is the state in which it is closed
  pub close-state : (new : Node) (examined : ℕ) → new ≡ closed_by (evidence_for item why) item → examined ≡ suc s.examined
      → record s { nodes = set s.nodes id.0 new; examined = examined } ≡ closed_at s id why (slice_get s.nodes id.0)
  close-state new examined written more =
      let make : Node → ℕ → State = λ x n. record s { nodes = set s.nodes id.0 x; examined = n } in
      ap₂ make written more ∙ sym is_closed

  -- the pool stays one when the read node is written back closed, its region let go and its slot given back
  pub close-kept : (new : Node) (examined : ℕ) (left : Option Kept) (back : List Slot) → new ≡ closed_by (evidence_for item why) item → examined ≡ suc s.examined
      → left ≡ None → back ≡ given_back places item.round → IsReachable (closed_at s id why (slice_get s.nodes id.0))
      → IsKeptPool (record s { nodes = set s.nodes id.0 new; examined = examined }) table (set grounds id.0 left) back
  close-kept new examined left back written more none returned reachable =
      let kept = closed-kept s table grounds places id item (evidence_for item why) h is_item (subst IsReachable is_closed reachable) in
      subst (λ (x : State). IsKeptPool x table (set grounds id.0 left) back) (sym (close-state new examined written more ∙ is_closed))
      (subst (λ (o : Option Kept). IsKeptPool (examined_with s id (closed_by (evidence_for item why) item)) table (set grounds id.0 o) back) (sym none)
      (subst (λ (xs : List Slot). IsKeptPool (examined_with s id (closed_by (evidence_for item why) item)) table (set grounds id.0 None) xs) (sym returned) kept))
