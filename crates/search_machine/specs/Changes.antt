-- What the events share: changes of a node and its round, and the refusals of a spent budget and of a late call.
use Rattle.std.specs.Prelude.{ℕ, suc, ◌≡◌, ◌<◌, ◌⊎◌, Bool, true, false, not, ◌==◌, List, Option, Some, None, is_some, option_map, slice_set, ℤ, nat_le, int_lt, if◌then◌else◌}
use Rattle.plan_base.specs.declared.ids.DemandId.{DemandId}
use Rattle.plan_base.specs.declared.ids.BranchId.{BranchId}
use Rattle.plan_base.specs.declared.parts.Parts.{Parts}
use Rattle.plan_base.specs.First.{◌or_else◌, when, first_in}
use Rattle.plan_base.specs.Faults.{demand_id}
use Rattle.proof_tree.specs.declared.cuts.Cut.{Cut}
use Rattle.proof_tree.specs.Evidence.{ClosedByCrowd}
use Rattle.proof_tree.specs.RatedEvidence.{IsBoundAt}
use Rattle.search_machine.specs.declared.answers.NodeState.{NodeState}
use Rattle.search_machine.specs.declared.answers.NodeState.TheVariants as state
use Rattle.search_machine.specs.State.{Round, Best, Node, State, region_of, left_of, state_of, round_of, Limit, Found, Undone}

-- the state with this node at the number
abbrev pub with_node : State → BranchId → Node → State
with_node s id node = record s { nodes = slice_set s.nodes id.0 node }

-- a node with these limits, that waits with these prices and has nothing recorded
abbrev pub waiting_with : List Limit → List ℕ → Node
waiting_with limits prices = record {
  limits = limits;
  first_prices = prices;
  best = None;
  completed = 0;
  fate = Undone;
  cut = None;
  crowd = None;
  settled = false;
  crowd_tried = false;
  round = None;
}

-- the better of what is recorded and of a new bound with its prices; the recorded one where they are equal
abbrev pub better_of : Option Best → ℤ → List ℕ → Best
better_of None bound prices = record { bound = bound; prices = prices }
better_of (Some best) bound prices = if int_lt best.bound bound then record { bound = bound; prices = prices } else best

-- the crowd proof that a node has after a complete round
abbrev pub KeepsCrowd : Parts → Node → List ℕ → Option (List ℕ) → Type 0
KeepsCrowd p node prices crowd =
    (ClosedByCrowd p (region_of p node) prices × (crowd ≡ Some prices))
    ⊎ ((ClosedByCrowd p (region_of p node) prices → ⊥) × (crowd ≡ node.crowd))

-- a complete round counts, and its bound and its crowd proof are recorded
pub record Completes (p : Parts) (cuts : List Cut) (old : Node) (round : Round) (new : Node) : Type 0 where
  pub complete : left_of round ≡ 0
  pub bound : ℤ
  pub crowd : Option (List ℕ)
  pub is_bound : IsBoundAt p cuts (region_of p old) round.prices bound
  pub is_crowd : KeepsCrowd p old round.prices crowd
  pub becomes : new ≡ record old {
    best = Some (better_of old.best bound round.prices);
    completed = suc old.completed;
    crowd = crowd;
    round = Some round;
  }

-- a round that is not complete
pub record GoesOn (old : Node) (round : Round) (new : Node) : Type 0 where
  pub incomplete : 0 < left_of round
  pub becomes : new ≡ record old { round = Some round }

-- the node when its round has become this one
abbrev pub TakesRound : Parts → List Cut → Node → Round → Node → Type 0
TakesRound p cuts old round new = Completes p cuts old round new ⊎ GoesOn old round new

-- a node that is closed or divided raises the count
abbrev pub examined_with : State → BranchId → Node → State
examined_with s id node = record s { nodes = slice_set s.nodes id.0 node; examined = suc s.examined }

-- the budget is spent: as many nodes are examined as may be
abbrev pub is_spent : State → Bool
is_spent s = nat_le s.budget s.examined

-- the node is an open leaf
abbrev pub is_open_state : NodeState → Bool
is_open_state state.Waiting = true
is_open_state state.Active = true
is_open_state _ = false

-- the node of this number is one
abbrev pub IsOpenLeaf : State → BranchId → Type 0
IsOpenLeaf s id = is_open_state (state_of s id) ≡ true

-- the node is an open leaf without a round
abbrev pub is_waiting : NodeState → Bool
is_waiting state.Waiting = true
is_waiting _ = false

-- the node of this number is one
abbrev pub IsWaiting : State → BranchId → Type 0
IsWaiting s id = is_waiting (state_of s id) ≡ true

-- the version of the round, if there is one
abbrev pub version_in : Option Round → Option ℕ
version_in round = option_map (λ r. r.version) round

-- the current version is there, and is this one
abbrev pub is_version : Option ℕ → ℕ → Bool
is_version None version = false
is_version (Some current) version = current == version

-- the refusals of a call on a version: the budget is spent, or the node has no round of the version
abbrev pub stale_fault : {F : Type 0} → (ℕ → F) → (Option ℕ → F) → State → BranchId → ℕ → Option F
stale_fault spent stale s id version =
    when (is_spent s) (spent s.examined)
    or_else when (not (is_version (version_in (round_of s id)) version)) (stale (version_in (round_of s id)))

-- the demand of this place, where it is not priced
abbrev pub gap_at : ℕ → Option Found → Option DemandId
gap_at k None = Some (demand_id k)
gap_at k (Some found) = None

-- the first demand that is not priced
abbrev pub first_gap : Option Round → Option DemandId
first_gap None = None
first_gap (Some round) = first_in gap_at round.found

-- the node holds a cut
abbrev pub has_cut : Option Node → Bool
has_cut None = false
has_cut (Some node) = is_some node.cut

-- the recorded bound of the node, in cost grains, if there is one
abbrev pub bound_in : Option Node → Option ℤ
bound_in None = None
bound_in (Some node) = option_map (λ best. best.bound) node.best
