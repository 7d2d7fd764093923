-- What is next at an open leaf.
use Rattle.std.specs.Prelude.{◌≡◌, Bool, true, false, not, ◌&&◌, Option, Some, None, nat_lt}
use Rattle.plan_base.specs.declared.ids.BranchId.{BranchId}
use Rattle.search_machine.specs.declared.limits.TheConstants.{MAX_ROUNDS, MAX_VERSIONS}
use Rattle.search_machine.specs.declared.answers.NodeState.{NodeState}
use Rattle.search_machine.specs.declared.answers.NodeState.TheVariants as state
use Rattle.search_machine.specs.declared.task.Task.{Task}
use Rattle.search_machine.specs.declared.task.Task.TheVariants as task
use Rattle.search_machine.specs.State.{Node, State, active_count, state_of}
use Rattle.search_machine.specs.Opening.{open_fault}
use Rattle.search_machine.specs.Closing.{close_fault}
use Rattle.search_machine.specs.Gathering.{has_enough}
use Rattle.search_machine.specs.Readiness.{examine_refusal}
use Rattle.search_machine.specs.Tasks.{IsToPrice, IsToAdvance}

-- a node in this state has a round, or waits where a slot is free
abbrev pub is_next_in : Bool → NodeState → Bool
is_next_in room state.Active = true
is_next_in room state.Waiting = room
is_next_in room _ = false

-- the node is an open leaf that has a round, or for whose round a slot is free
abbrev pub is_next : State → BranchId → Bool
is_next s id = is_next_in (nat_lt (active_count s) MAX_ROUNDS) (state_of s id)

-- the node is not settled and has room for more complete versions
abbrev pub may_go_on_in : Option Node → Bool
may_go_on_in None = false
may_go_on_in (Some node) = not node.settled && nat_lt node.completed MAX_VERSIONS

-- no further version of the node is to follow
abbrev pub enough_in : State → Option Node → Bool
enough_in s None = false
enough_in s (Some node) = has_enough s node

-- the task is one at this node, and its call would not be refused now
abbrev pub IsStepAt : State → BranchId → Task → Type 0
IsStepAt s id (task.Open at) = (at ≡ id) × (open_fault s id ≡ None)
IsStepAt s id (task.Price at slot version k) = (at ≡ id) × IsToPrice s id slot version k
IsStepAt s id (task.Master at version) = (at ≡ id) × IsToAdvance s id version
IsStepAt s id (task.Close at) = (at ≡ id) × (close_fault s id ≡ None)
IsStepAt s id (task.Examine at) = (at ≡ id) × (examine_refusal s id ≡ None)
IsStepAt s id task.Done = ⊥
