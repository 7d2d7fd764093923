-- What may be done next, and where tasks lead.
use Rattle.std.specs.Prelude.{ℕ, ◌≡◌, ◌<◌, true, false, Some, None, slice_get, List}
use Rattle.plan_base.specs.declared.ids.BranchId.{BranchId}
use Rattle.plan_base.specs.declared.ids.DemandId.{DemandId}
use Rattle.plan_base.specs.declared.parts.Parts.{Parts}
use Rattle.proof_tree.specs.declared.cuts.Cut.{Cut}
use Rattle.search_machine.specs.declared.task.Task.{Task}
use Rattle.search_machine.specs.declared.task.Task.TheVariants as task
use Rattle.search_machine.specs.declared.limits.TheConstants.{MAX_VERSIONS}
use Rattle.search_machine.specs.Soundness.{IsSound}
use Rattle.search_machine.specs.PlanOf.{is_done}
use Rattle.search_machine.specs.State.{Round, Node, State, cutoff_of, left_of}
use Rattle.search_machine.specs.Opening.{open_fault}
use Rattle.search_machine.specs.Closing.{is_closable, close_fault}
use Rattle.search_machine.specs.Readiness.{examine_refusal}
use Rattle.search_machine.specs.Machine.{Entry, Run, IsReachable}

-- the node's active round has the slot and the version
pub record IsActive (s : State) (id : BranchId) (slot version : ℕ) (node : Node) (round : Round) : Type 0 where
  pub is_node : slice_get s.nodes id.0 ≡ Some node
  pub is_round : node.round ≡ Some round
  pub slot_is : round.slot ≡ slot
  pub version_is : round.version ≡ version

-- a demand that the round has not priced, of a node without a cut, with budget left
pub record IsToPrice (s : State) (id : BranchId) (slot version : ℕ) (k : DemandId) : Type 0 where
  pub not_spent : s.examined < s.budget
  pub node : Node
  pub round : Round
  pub active : IsActive s id slot version node round
  pub not_priced : slice_get round.found k.0 ≡ Some None
  pub no_cut : node.cut ≡ None

-- a complete version that is not settled, of a node that is not closable and has room for more
pub record IsToAdvance (s : State) (id : BranchId) (version : ℕ) : Type 0 where
  pub not_spent : s.examined < s.budget
  pub node : Node
  pub round : Round
  pub active : IsActive s id round.slot version node round
  pub complete : left_of round ≡ 0
  pub not_settled : node.settled ≡ false
  pub room : node.completed < MAX_VERSIONS
  pub not_closable : is_closable s.unit (cutoff_of s) node ≡ false

-- the task names a call that would not be refused now
abbrev pub IsLawfulTask : State → Task → Type 0
IsLawfulTask s (task.Open id) = open_fault s id ≡ None
IsLawfulTask s (task.Price id slot version k) = IsToPrice s id slot version k
IsLawfulTask s (task.Master id version) = IsToAdvance s id version
IsLawfulTask s (task.Close id) = close_fault s id ≡ None
IsLawfulTask s (task.Examine id) = examine_refusal s id ≡ None
IsLawfulTask s task.Done = is_done s ≡ true

-- some events lead from the one state to the other
abbrev pub LeadsTo : State → State → Type 0
LeadsTo old new = (entries : List Entry) × Run old entries new

-- the state is sound, and events lead to it from the opening state of this instance, these cuts and this budget
pub record IsSearchState (p : Parts) (cuts : List Cut) (budget : ℕ) (s : State) : Type 0 where
  pub reachable : IsReachable s
  pub sound : IsSound s
  pub problem : s.problem ≡ p
  pub cuts_are : s.cuts ≡ cuts
  pub budget_is : s.budget ≡ budget
