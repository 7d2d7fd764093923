-- Slots of rounds: which are free, and which node a slot names; no public contract of the pool cites it.
use Rattle.std.specs.Prelude.{ℕ, ◌≡◌, ◌<◌, Bool, true, false, List, Option, Some, None, slice_get, slice_set}
use Rattle.plan_base.specs.declared.ids.BranchId.{BranchId}
use Rattle.search_machine.specs.State.{Round}
use Rattle.search_nodes.specs.declared.slot.Slot.{Slot}
use Rattle.search_nodes.specs.declared.slot.Slot.TheVariants.{Free, Of}

-- whether a slot is free
abbrev pub is_free : Slot → Bool
is_free (Free place) = true
is_free (Of id) = false

-- the node that a slot names, if it is there and taken
abbrev pub holder_in : Option Slot → Option BranchId
holder_in None = None
holder_in (Some (Free place)) = None
holder_in (Some (Of id)) = Some id

-- the first free place
pub record IsFirstFree (places : List Slot) (slot : ℕ) : Type 0 where
  pub place : Round
  pub is_free : slice_get places slot ≡ Some (Free place)
  pub lower : (k : ℕ) → k < slot → (id : BranchId) × (slice_get places k ≡ Some (Of id))

-- the places when the round of a node has ended
abbrev pub given_back : List Slot → Option Round → List Slot
given_back places None = places
given_back places (Some round) = slice_set places round.slot (Free round)
