-- How the pool's fields show a state, and what holds of them.
use Rattle.std.specs.Prelude.{ℕ, ◌≡◌, ◌<◌, ◌≤◌, ◌+◌, List, length, count_by, Option, Some, None, option_map, slice_get, IfSome}
use Rattle.search_machine.specs.declared.limits.TheConstants.{MAX_ROUNDS, MAX_BUDGET}
use Rattle.plan_base.specs.declared.path.Design.{Design}
use Rattle.plan_base.specs.Places.{places}
use Rattle.cut_values.specs.Numbers.{CutProblem}
use Rattle.dual_versions.specs.declared.published.Published.{Published}
use Rattle.plan_base.specs.declared.ids.BranchId.{BranchId}
use Rattle.search_nodes.specs.declared.reason.Reason.{Reason}
use Rattle.search_nodes.specs.Grounds.{Kept, HasGrounds}
use Rattle.arc_restrict.specs.Rows.{Rows, forbids}
use Rattle.search_machine.specs.State.{Round, Node, State, restriction_of, active_count}
use Rattle.search_nodes.specs.Rounds.{evidence_for}
use Rattle.search_machine.specs.Opening.{HasSlot, IsTaken}
use Rattle.search_nodes.specs.declared.slot.Slot.{Slot}
use Rattle.search_nodes.specs.declared.slot.Slot.TheVariants.{Free, Of}
use Rattle.search_nodes.specs.Slots.{is_free}
use Rattle.search_machine.specs.Closing.{closed_by}
use Rattle.search_machine.specs.Changes.{examined_with}
use Rattle.search_machine.specs.Machine.{IsReachable}

-- the round of the node of this number has the slot
abbrev pub IsTakenBy : State → ℕ → ℕ → Type 0
IsTakenBy s slot n = (node : Node) × (slice_get s.nodes n ≡ Some node) × HasSlot slot node

-- each slot that no round has is free, with room for one length for each demand, one price for each place and one rate for
-- each cut; each other one names the node whose round has it
pub record HasPlaces (s : State) (slots : List Slot) : Type 0 where
  pub count : length slots ≡ MAX_ROUNDS
  pub total : count_by is_free slots + active_count s ≡ MAX_ROUNDS
  pub taken : (slot : ℕ) (id : BranchId) → slice_get slots slot ≡ Some (Of id) → IsTakenBy s slot id.0
  pub free : (slot : ℕ) (place : Round) → slice_get slots slot ≡ Some (Free place) → IsTaken s slot → ⊥
  pub slot_is : (slot : ℕ) (place : Round) → slice_get slots slot ≡ Some (Free place) → place.slot ≡ slot
  pub demands : (slot : ℕ) (place : Round) → slice_get slots slot ≡ Some (Free place) → length place.found ≡ length s.problem.demands
  pub prices : (slot : ℕ) (place : Round) → slice_get slots slot ≡ Some (Free place) → length place.prices ≡ places s.problem + length s.cuts

-- each of the first slots is free, has its own number, and has room for so many demands and prices
pub record AreFreePlaces (count demands prices : ℕ) (slots : List Slot) : Type 0 where
  pub length_is : length slots ≡ count
  pub each : (slot : ℕ) → slot < count → (place : Round) × (slice_get slots slot ≡ Some (Free place))
      × (place.slot ≡ slot) × (length place.found ≡ demands) × (length place.prices ≡ prices)

-- the state is one that events lead to, and these are its slots
pub record IsPool (s : State) (slots : List Slot) : Type 0 where
  pub reachable : IsReachable s
  pub some_budget : 0 < s.budget
  pub budget : s.budget ≤ MAX_BUDGET
  pub has_places : HasPlaces s slots

-- a pool with the table of its instance and its cuts, and the regions of its open leaves
pub record IsKeptPool (s : State) (table : CutProblem) (grounds : List (Option Kept)) (slots : List Slot) : Type 0 where
  pub pool : IsPool s slots
  pub table_is : table.problem ≡ s.problem
  pub cuts_are : table.cuts ≡ s.cuts
  pub has_grounds : HasGrounds s.problem s.nodes grounds

-- the same with room for the steps of its instance: one price for each place and one rate for each cut
pub record IsFittedPool (s : State) (table : CutProblem) (room : ℕ) (grounds : List (Option Kept)) (slots : List Slot) : Type 0 where
  pub kept : IsKeptPool s table grounds slots
  pub room_is : room ≡ places s.problem + length s.cuts

-- one price for each place, and one rate for each cut
abbrev pub HasWidthOf : State → List ℕ → Type 0
HasWidthOf s prices = length prices ≡ places s.problem + length s.cuts

-- the prices are the first ones of the node that is there
abbrev pub AreFirstAt : State → BranchId → List ℕ → Type 0
AreFirstAt s id prices = IfSome (slice_get s.nodes id.0) (λ x. prices ≡ x.first_prices)

-- the rows forbid what is forbidden at the node that is there
abbrev pub AreRowsAt : State → BranchId → Rows → Type 0
AreRowsAt s id rows = IfSome (slice_get s.nodes id.0) (λ x. forbids rows ≡ restriction_of x)

-- the best design so far, or none
abbrev pub design_of : State → Option Design
design_of s = option_map (λ held. held.design) s.incumbent

-- what is published of a slot: the prices and version of the round that has it, and its node; nothing where no round has it
abbrev pub IsPublishedAt : State → ℕ → Option Published → Type 0
IsPublishedAt s slot None = IsTaken s slot → ⊥
IsPublishedAt s slot (Some published) =
    (node : Node) × (round : Round) × (slice_get s.nodes published.node.0 ≡ Some node) × (node.round ≡ Some round)
    × (round.slot ≡ slot) × (round.version ≡ published.version) × (round.prices ≡ published.prices)

-- the state in which the node that is there is closed for the reason
abbrev pub closed_at : State → BranchId → Reason → Option Node → State
closed_at s id why None = s
closed_at s id why (Some node) = examined_with s id (closed_by (evidence_for node why) node)
