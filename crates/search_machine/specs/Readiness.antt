-- When an open leaf may be examined, and why it may not.
use Rattle.std.specs.Prelude.{ℕ, ◌≡◌, ◌<◌, ◌≤◌, ◌⊎◌, Bool, true, false, not, ◌&&◌, ◌==◌, length, Option, Some, None, slice_get, ℤ, pos, nat_lt, if◌then◌else◌}
use Rattle.plan_base.specs.declared.ids.BranchId.{BranchId}
use Rattle.plan_base.specs.declared.ids.DemandId.{DemandId}
use Rattle.plan_base.specs.declared.parts.Parts.{Parts}
use Rattle.plan_base.specs.First.{◌or_else◌, when}
use Rattle.arc_restrict.specs.Restrictions.{Forbidden}
use Rattle.proof_tree.specs.Evidence.{IsFar, ClosedByFar}
use Rattle.search_machine.specs.declared.answers.ExamineFault.{ExamineFault}
use Rattle.search_machine.specs.declared.answers.ExamineFault.TheVariants as examine_fault
use Rattle.search_machine.specs.declared.limits.TheConstants.{MAX_VERSIONS}
use Rattle.search_machine.specs.State.{Node, State, cutoff_of, state_of, Undone}
use Rattle.search_machine.specs.Changes.{is_spent, is_open_state, has_cut, bound_in}
use Rattle.search_machine.specs.Closing.{is_closable, closable_in}

-- how many versions of the node were complete, 0 for no node
abbrev pub completed_in : Option Node → ℕ
completed_in None = 0
completed_in (Some node) = node.completed

-- the node has the mark that no further version is published
abbrev pub settled_in : Option Node → Bool
settled_in None = false
settled_in (Some node) = node.settled

-- what the recorded bound of a closable node is, or 0 where it has none
abbrev pub bound_or_zero : Option ℤ → ℤ
bound_or_zero None = pos 0
bound_or_zero (Some bound) = bound

-- why a node without a cut is not examined: never priced, closable, or not settled
abbrev pub ready_fault : State → Option Node → Option ExamineFault
ready_fault s node =
    when (completed_in node == 0) examine_fault.Unpriced
    or_else when (closable_in s.unit (cutoff_of s) node) (examine_fault.Closable (bound_or_zero (bound_in node)) (cutoff_of s))
    or_else when (not (settled_in node) && nat_lt (completed_in node) MAX_VERSIONS) (examine_fault.Unsettled (completed_in node))

-- why an examination is refused, the first cause first
unfoldable pub examine_refusal : State → BranchId → Option ExamineFault
examine_refusal s id =
    when (is_spent s) (examine_fault.Spent s.examined)
    or_else when (not (is_open_state (state_of s id))) (examine_fault.NotOpen (state_of s id))
    or_else (if has_cut (slice_get s.nodes id.0) then None else ready_fault s (slice_get s.nodes id.0))

-- the node is open, and the budget lets it be examined
pub record IsExamined (s : State) (id : BranchId) (node : Node) : Type 0 where
  pub not_spent : s.examined < s.budget
  pub is_node : slice_get s.nodes id.0 ≡ Some node
  pub undone : node.fate ≡ Undone

-- it is also without a cut, priced, not closable, and settled or out of versions
pub record IsReady (s : State) (id : BranchId) (node : Node) : Type 0 where
  pub open_node : IsExamined s id node
  pub no_cut : node.cut ≡ None
  pub priced : 0 < node.completed
  pub not_closable : is_closable s.unit (cutoff_of s) node ≡ false
  pub settled : (node.settled ≡ true) ⊎ (MAX_VERSIONS ≤ node.completed)

-- no permitted path of the demand keeps its limit, and each demand before it that has a limit has a path that does
pub record IsFirstFar (p : Parts) (r : Forbidden) (demand : DemandId) : Type 0 where
  pub closed : ClosedByFar p r demand
  pub before : (k : ℕ) → k < demand.0 → IsFar p r k → ⊥

-- each demand that has a limit has a permitted path that keeps it
abbrev pub NoneFar : Parts → Forbidden → Type 0
NoneFar p r = (k : ℕ) → k < length p.demands → IsFar p r k → ⊥
