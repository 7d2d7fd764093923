-- The least bound of the open leaves.
use Rattle.std.specs.Prelude.{ℤ, Bool, false, ◌&&◌, ◌||◌, List, Option, Some, None, is_none, slice_get, fold, if◌then◌else◌}
use Rattle.plan_base.specs.declared.ids.BranchId.{BranchId}
use Rattle.search_machine.specs.State.{Node, State, state_by}
use Rattle.search_machine.specs.Changes.{bound_in, is_open_state}
use Rattle.search_nodes.specs.Ranks.{lesser_of}
use Rattle.search_nodes.specs.Records.{children_by}

-- the node is an open leaf of which no bound is recorded
abbrev pub lacks_bound : Option Node → Bool
lacks_bound None = false
lacks_bound (Some node) = is_open_state (state_by node.fate node.round) && is_none (bound_in (Some node))

-- one of the two children is an open leaf of which no bound is recorded
abbrev pub child_lacks_bound : List Node → Option (BranchId × BranchId) → Bool
child_lacks_bound nodes None = false
child_lacks_bound nodes (Some two) = lacks_bound (slice_get nodes two.0.0) || lacks_bound (slice_get nodes two.1.0)

-- the recorded bound of an open leaf; and that of a divided node, for a child of which none is recorded
abbrev pub leaf_bound_in : List Node → Node → Option ℤ
leaf_bound_in nodes node = if is_open_state (state_by node.fate node.round) || child_lacks_bound nodes (children_by node.fate) then bound_in (Some node) else None

-- the least bound of the open leaves among some of these nodes
abbrev pub least_bound_of : List Node → List Node → Option ℤ
least_bound_of nodes some = fold (λ least node. lesser_of least (leaf_bound_in nodes node)) None some

-- the least bound of the open leaves, where an open leaf of which none is recorded has that of its parent; none where none is known
abbrev pub open_bound_of : State → Option ℤ
open_bound_of s = least_bound_of s.nodes s.nodes
