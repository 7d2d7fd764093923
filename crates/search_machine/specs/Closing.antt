-- Closings: an open leaf is closed by its bound or its crowd proof.
use Rattle.std.specs.Prelude.{ℕ, ◌≡◌, ◌<◌, Bool, false, not, ◌||◌, List, Option, Some, None, is_some, slice_get, pos, ◌+ℤ◌, ◌<ℤ◌, int_lt, IsSomeAnd}
use Rattle.plan_base.specs.declared.ids.BranchId.{BranchId}
use Rattle.plan_base.specs.First.{◌or_else◌, when}
use Rattle.proof_tree.specs.declared.tree.Evidence.{Evidence}
use Rattle.proof_tree.specs.declared.tree.Evidence.TheVariants as evidence
use Rattle.search_machine.specs.declared.answers.Closing.{Closing}
use Rattle.search_machine.specs.declared.answers.Closing.TheVariants as closing
use Rattle.search_machine.specs.State.{Best, Node, State, cutoff_of, state_of, Undone, ClosedBy}
use Rattle.search_machine.specs.Changes.{is_spent, is_open_state, bound_in, examined_with}

-- the recorded bound is above the cost less the unit of costs
abbrev pub reaches : ℕ → Option Best → Option ℕ → Bool
reaches unit None cost = false
reaches unit (Some best) None = false
reaches unit (Some best) (Some cost) = int_lt (pos cost) (best.bound +ℤ pos unit)

-- the node has a crowd proof, or its recorded bound is above the cost less the unit, in cost grains
abbrev pub is_closable : ℕ → Option ℕ → Node → Bool
is_closable unit cost node = is_some node.crowd || reaches unit node.best cost

-- there is such a node, and it is closable against the cost
abbrev pub closable_in : ℕ → Option ℕ → Option Node → Bool
closable_in unit cost None = false
closable_in unit cost (Some node) = is_closable unit cost node

-- why a closing is refused, the first cause first: spent, no open leaf, too weak a bound
unfoldable pub close_fault : State → BranchId → Option Closing
close_fault s id =
    when (is_spent s) (closing.Spent s.examined)
    or_else when (not (is_open_state (state_of s id))) (closing.NotOpen (state_of s id))
    or_else when (not (closable_in s.unit (cutoff_of s) (slice_get s.nodes id.0))) (closing.Weak (bound_in (slice_get s.nodes id.0)) (cutoff_of s))

-- the node when it is closed: its round ends, and it keeps no cut and no crowd proof but in its evidence
abbrev pub closed_by : Evidence → Node → Node
closed_by found node = record node { fate = ClosedBy found; cut = None; crowd = None; round = None }

-- the crowd proof, or else the bound at the best prices
pub data ClosesBy (unit : ℕ) (cost : Option ℕ) (node : Node) : Evidence → Type 0 where
  by_crowd : (prices : List ℕ) → node.crowd ≡ Some prices → ClosesBy unit cost node (evidence.Crowd prices)
  by_bound : (best : Best) → node.crowd ≡ None → node.best ≡ Some best → IsSomeAnd cost (λ c. pos c <ℤ (best.bound +ℤ pos unit)) → ClosesBy unit cost node (evidence.Bound best.prices)

-- an open leaf is closed by its crowd proof or its bound
pub record Closes (old : State) (id : BranchId) (new : State) : Type 0 where
  pub not_spent : old.examined < old.budget
  pub node : Node
  pub is_node : slice_get old.nodes id.0 ≡ Some node
  pub undone : node.fate ≡ Undone
  pub found : Evidence
  pub closes_by : ClosesBy old.unit (cutoff_of old) node found
  pub becomes : new ≡ examined_with old id (closed_by found node)

-- a closing is answered so and leads from old to new; a refused one changes nothing
abbrev pub CloseStep : State → BranchId → Closing → State → Type 0
CloseStep old id closing.Closed new = Closes old id new
CloseStep old id refusal new = (close_fault old id ≡ Some refusal) × (new ≡ old)
