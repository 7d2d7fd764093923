-- Openings: a node that waits gets a round.
use Rattle.std.specs.Prelude.{ℕ, suc, ◌≡◌, ◌<◌, not, List, length, replicate, Option, Some, None, slice_get, slice_set, nat_le, IsSomeAnd, Result, Ok, Err}
use Rattle.plan_base.specs.declared.ids.BranchId.{BranchId}
use Rattle.plan_base.specs.First.{◌or_else◌, when}
use Rattle.search_machine.specs.declared.answers.Opened.{Opened}
use Rattle.search_machine.specs.declared.answers.RoundFault.{RoundFault}
use Rattle.search_machine.specs.declared.answers.RoundFault.TheVariants as round_fault
use Rattle.search_machine.specs.declared.limits.TheConstants.{MAX_ROUNDS}
use Rattle.search_machine.specs.State.{Round, Node, State, active_count, state_of, Undone}
use Rattle.search_machine.specs.Changes.{TakesRound, is_spent}
pub use Rattle.search_machine.specs.Changes.{is_waiting}

-- why an opening is refused, the first cause first: spent, not waiting, no free slot
unfoldable pub open_fault : State → BranchId → Option RoundFault
open_fault s id =
    when (is_spent s) (round_fault.Spent s.examined)
    or_else when (not (is_waiting (state_of s id))) (round_fault.NotOpen (state_of s id))
    or_else when (nat_le MAX_ROUNDS (active_count s)) (round_fault.Crowded (active_count s))

-- a round has the slot
abbrev pub HasSlot : ℕ → Node → Type 0
HasSlot slot node = IsSomeAnd node.round (λ round. round.slot ≡ slot)

-- some node's round has the slot
abbrev pub IsTaken : State → ℕ → Type 0
IsTaken s slot = (n : ℕ) × (node : Node) × (slice_get s.nodes n ≡ Some node) × HasSlot slot node

-- no round has the slot, and each lower slot is taken
pub record IsLowestFreeSlot (s : State) (slot : ℕ) : Type 0 where
  pub within : slot < MAX_ROUNDS
  pub free : IsTaken s slot → ⊥
  pub lowest : (other : ℕ) → other < slot → IsTaken s other

-- a round of a version in which no demand is priced
abbrev pub empty_round : State → ℕ → List ℕ → Round
empty_round s slot prices = record { slot = slot; version = s.next_version; prices = prices; found = replicate (length s.problem.demands) None }

-- the node waits, and there is room for its round
pub record MayOpen (s : State) (id : BranchId) : Type 0 where
  pub not_spent : s.examined < s.budget
  pub node : Node
  pub is_node : slice_get s.nodes id.0 ≡ Some node
  pub undone : node.fate ≡ Undone
  pub no_round : node.round ≡ None
  pub room : active_count s < MAX_ROUNDS

-- the node has waited and gets a round of its first prices and the next version
pub record Opens (old : State) (id : BranchId) (opened : Opened) (new : State) : Type 0 where
  pub may : MayOpen old id
  pub slot : IsLowestFreeSlot old opened.slot
  pub version : opened.version ≡ old.next_version
  pub after : Node
  pub takes : TakesRound old.problem old.cuts may.node (empty_round old opened.slot may.node.first_prices) after
  pub becomes : new ≡ record old { nodes = slice_set old.nodes id.0 after; next_version = suc old.next_version }

-- an opening answers so and leads from old to new; a refused one changes nothing
abbrev pub OpenStep : State → BranchId → Result Opened RoundFault → State → Type 0
OpenStep old id (Ok opened) new = Opens old id opened new
OpenStep old id (Err fault) new = (open_fault old id ≡ Some fault) × (new ≡ old)
