-- Gatherings: the paths of a complete round become columns.
use Rattle.std.specs.Prelude.{ℕ, zero, suc, ◌≡◌, ◌<◌, ◌≤◌, ◌⊎◌, Bool, not, ◌&&◌, ◌||◌, is_some, nat_lt, List, length, Option, Some, None, option_map, slice_get, slice_index_or, Result, Ok, Err}
use Rattle.std.specs.declared.alloc.AllocError.{AllocError}
use Rattle.plan_base.specs.declared.ids.BranchId.{BranchId}
use Rattle.plan_base.specs.declared.ids.DemandId.{DemandId}
use Rattle.plan_base.specs.First.{◌or_else◌, when, first_in}
use Rattle.plan_base.specs.Faults.{demand_id}
use Rattle.column_pool.specs.declared.brief.Brief.{Brief}
use Rattle.column_pool.specs.Columns.{Columns, columns_at, is_column, columns_with, permitted_at}
use Rattle.master_step.specs.Columns.{Choices}
use Rattle.search_machine.specs.declared.limits.TheConstants.{ENOUGH_VERSIONS}
use Rattle.search_machine.specs.declared.answers.Gather.{Gather}
use Rattle.search_machine.specs.declared.answers.Gather.TheVariants as gather
use Rattle.search_machine.specs.State.{Round, Node, State, Found, restriction_of, ranges_of, cutoff_of, left_of, round_of}
use Rattle.search_machine.specs.Changes.{stale_fault, first_gap}

-- the columns that the node permits to each demand, in their order
abbrev pub columns_for : State → Node → Choices
columns_for s node = permitted_at (restriction_of node) s.columns

-- the columns when the path found for a demand is added
abbrev pub with_path_of : Columns → ℕ → Option Found → Columns
with_path_of columns k None = columns
with_path_of columns k (Some found) = columns_with columns k found.path

-- the columns when the paths found for so many demands are added, in order of demands
abbrev pub gathered : Columns → List (Option Found) → ℕ → Columns
gathered columns found zero = columns
gathered columns found (suc n) = with_path_of (gathered columns found n) n (slice_index_or found n None)

-- the demand of this place, where its path is no column of it
abbrev pub ungathered_at : Columns → ℕ → Option Found → Option DemandId
ungathered_at columns k None = None
ungathered_at columns k (Some found) = when (not (is_column (columns_at columns k) found.path)) (demand_id k)

-- the first demand whose path is no column of it
abbrev pub first_ungathered : Columns → Option Round → Option DemandId
first_ungathered columns None = None
first_ungathered columns (Some round) = first_in (ungathered_at columns) round.found

-- why a gathering is refused, the first cause first: spent, stale, a demand not priced
unfoldable pub gather_fault : State → BranchId → ℕ → Option Gather
gather_fault s id version =
    stale_fault gather.Spent gather.Stale s id version
    or_else option_map gather.Incomplete (first_gap (round_of s id))

-- the node has a complete round of the version, and the budget is not spent
pub record IsCompleteRound (s : State) (id : BranchId) (version : ℕ) (node : Node) (round : Round) : Type 0 where
  pub not_spent : s.examined < s.budget
  pub is_node : slice_get s.nodes id.0 ≡ Some node
  pub is_round : node.round ≡ Some round
  pub is_version : round.version ≡ version
  pub complete : left_of round ≡ 0

-- it also has no path that is no column of its demand
pub record IsGathered (s : State) (id : BranchId) (version : ℕ) (node : Node) (round : Round) : Type 0 where
  pub complete_round : IsCompleteRound s id version node round
  pub gathered_all : first_ungathered s.columns (Some round) ≡ None

-- no further version of the node is to follow: its crowd prices were tried; or a design is known, some node was examined, and
-- enough versions of this one were complete
abbrev pub has_enough : State → Node → Bool
has_enough s node = node.crowd_tried || (is_some s.incumbent && (nat_lt 0 s.examined && not (nat_lt node.completed ENOUGH_VERSIONS)))

-- what a master step is told: the prices of the round, and for each demand the columns that the node permits
pub record IsBriefOf (s : State) (id : BranchId) (node : Node) (round : Round) (brief : Brief) : Type 0 where
  pub node_is : brief.node ≡ id
  pub version : brief.version ≡ round.version
  pub prices : brief.prices ≡ round.prices
  pub ranges : brief.ranges ≡ ranges_of s.problem node
  pub count : length brief.columns ≡ length s.problem.demands
  pub columns : (k : ℕ) → k < length s.problem.demands → columns_at brief.columns k ≡ columns_for s node k
  pub crowd_tried : brief.crowd_tried ≡ node.crowd_tried
  pub has_enough : brief.has_enough ≡ has_enough s node
  pub incumbent : brief.incumbent ≡ cutoff_of s
  pub unit : brief.unit ≡ s.unit

-- all paths of the round are columns now, and the brief tells the new columns
pub record Gathers (old : State) (id : BranchId) (version : ℕ) (brief : Brief) (new : State) : Type 0 where
  pub node : Node
  pub round : Round
  pub complete_round : IsCompleteRound old id version node round
  pub becomes : new ≡ record old { columns = gathered old.columns round.found (length old.problem.demands) }
  pub is_brief : IsBriefOf new id node round brief

-- the paths of so many demands were added when memory was wanting
pub record GathersFront (old : State) (id : BranchId) (version : ℕ) (new : State) : Type 0 where
  pub node : Node
  pub round : Round
  pub complete_round : IsCompleteRound old id version node round
  pub front : ℕ
  pub within : front ≤ length old.problem.demands
  pub becomes : new ≡ record old { columns = gathered old.columns round.found front }

-- a gathering is answered so and leads from old to new; a refused one changes nothing, and one that wants memory may have
-- added some of the paths
abbrev pub GatherStep : State → BranchId → ℕ → Result Gather AllocError → State → Type 0
GatherStep old id version (Ok (gather.Taken brief)) new = Gathers old id version brief new
GatherStep old id version (Ok refusal) new = (gather_fault old id version ≡ Some refusal) × (new ≡ old)
GatherStep old id version (Err wanting) new = (new ≡ old) ⊎ GathersFront old id version new
