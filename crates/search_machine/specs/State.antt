-- The state of the search: a tree of nodes in the order of their making, the incumbent and the counts.
use Rattle.std.specs.Prelude.{ℕ, Bool, List, Option, Some, None, option_map, option_and_then, slice_get, sum_by, ℤ}
use Rattle.plan_base.specs.declared.ids.BranchId.{BranchId}
use Rattle.plan_base.specs.declared.parts.Parts.{Parts}
use Rattle.link_steps.specs.declared.range.LoadRange.{LoadRange}
use Rattle.arc_restrict.specs.Restrictions.{Forbidden}
use Rattle.proof_tree.specs.declared.cuts.Cut.{Cut}
use Rattle.proof_tree.specs.Regions.{Region}
use Rattle.column_pool.specs.Columns.{Columns}
use Rattle.search_machine.specs.declared.answers.NodeState.{NodeState}
use Rattle.search_machine.specs.declared.answers.NodeState.TheVariants as state
pub use Rattle.branch_tree.specs.declared.node.Limit.{Limit}
pub use Rattle.branch_tree.specs.declared.node.ArcSplit.{ArcSplit}
pub use Rattle.branch_tree.specs.declared.node.LoadSplit.{LoadSplit}
pub use Rattle.branch_tree.specs.declared.node.Divider.{Divider}
pub use Rattle.search_machine.specs.declared.tree.Found.{Found}
pub use Rattle.search_machine.specs.declared.tree.HeldCut.{HeldCut}
pub use Rattle.branch_tree.specs.declared.node.Division.{Division}
pub use Rattle.branch_tree.specs.declared.node.Fate.{Fate}
pub use Rattle.branch_tree.specs.declared.node.Fate.TheVariants.{Undone, ClosedBy, DividedBy}
pub use Rattle.branch_tree.specs.Branches.{restriction_by, ranges_by, region_by, narrowed, left_limit, right_limit, IsLimitOf}
pub use Rattle.search_machine.specs.declared.tree.Incumbent.{Incumbent}

-- the round of a node: which demands are priced under one version of prices, which are numbers: a price for each place, and
-- behind them a rate for each cut. One entry for each demand
pub record Round : Type 0 where
  pub slot : ℕ
  pub version : ℕ
  pub prices : List ℕ
  pub found : List (Option Found)

-- the greatest bound of a complete version, in cost grains, and the prices of that version
pub record Best : Type 0 where
  pub bound : ℤ
  pub prices : List ℕ

-- a node of the tree: what its splits leave, what is recorded, what became of it, its marks and its round
pub record Node : Type 0 where
  pub limits : List Limit
  pub first_prices : List ℕ
  pub best : Option Best
  -- how many versions were complete
  pub completed : ℕ
  pub fate : Fate
  pub cut : Option HeldCut
  -- prices that crowd the links without useful modules
  pub crowd : Option (List ℕ)
  pub settled : Bool
  pub crowd_tried : Bool
  pub round : Option Round

-- the whole state; a node is named by its place in the list
pub record State : Type 0 where
  pub problem : Parts
  -- the cuts whose rates stand behind the prices; no event changes them
  pub cuts : List Cut
  -- what all costs are multiples of, in cost grains
  pub unit : ℕ
  pub nodes : List Node
  pub columns : Columns
  pub incumbent : Option Incumbent
  pub examined : ℕ
  pub budget : ℕ
  pub next_version : ℕ
  pub accepted : ℕ

-- what is forbidden at a node
abbrev pub restriction_of : Node → Forbidden
restriction_of node = restriction_by node.limits

-- how much load each place may carry there
abbrev pub ranges_of : Parts → Node → List LoadRange
ranges_of p node = ranges_by p node.limits

-- the region of a node
abbrev pub region_of : Parts → Node → Region
region_of p node = region_by p node.limits

-- the cost that closed leaves are measured against, or none
abbrev pub cutoff_of : State → Option ℕ
cutoff_of s = option_map (λ held. held.cost) s.incumbent

-- 1 for a demand that is not priced
abbrev pub gap_of : Option Found → ℕ
gap_of None = 1
gap_of (Some found) = 0

-- how many demands of a round are not priced
abbrev pub left_of : Round → ℕ
left_of round = sum_by gap_of round.found

-- the same of a node's round, or 0
abbrev pub left_in_round : Option Round → ℕ
left_in_round None = 0
left_in_round (Some round) = left_of round

-- how many demands of its round a node has not priced
abbrev pub left_in : Node → ℕ
left_in node = left_in_round node.round

-- 1 for a node that is closed or divided
abbrev pub examined_by : Fate → ℕ
examined_by Undone = 0
examined_by (ClosedBy evidence) = 1
examined_by (DividedBy division) = 1

-- 1 for a node that is divided
abbrev pub divided_by_fate : Fate → ℕ
divided_by_fate Undone = 0
divided_by_fate (ClosedBy evidence) = 0
divided_by_fate (DividedBy division) = 1

-- 1 for a node that is divided
abbrev pub divided_in : Node → ℕ
divided_in node = divided_by_fate node.fate

-- 1 for a node that is closed or divided
abbrev pub examined_in : Node → ℕ
examined_in node = examined_by node.fate

-- 1 for a node with a round
abbrev pub rounds_by : Option Round → ℕ
rounds_by None = 0
rounds_by (Some round) = 1

-- 1 for a node that has a round
abbrev pub rounds_in : Node → ℕ
rounds_in node = rounds_by node.round

-- how many rounds are active
abbrev pub active_count : State → ℕ
active_count s = sum_by rounds_in s.nodes

-- what a node is: an open leaf waits or is active, as it has a round
abbrev pub state_by : Fate → Option Round → NodeState
state_by Undone None = state.Waiting
state_by Undone (Some round) = state.Active
state_by (ClosedBy evidence) round = state.Closed
state_by (DividedBy division) round = state.Divided

-- the same of the node that is there, or unknown
abbrev pub state_in : Option Node → NodeState
state_in None = state.Unknown
state_in (Some node) = state_by node.fate node.round

-- the state of the node of this number
abbrev pub state_of : State → BranchId → NodeState
state_of s id = state_in (slice_get s.nodes id.0)

-- the active round of the node of this number
abbrev pub round_of : State → BranchId → Option Round
round_of s id = option_and_then (λ node. node.round) (slice_get s.nodes id.0)

-- the prices that a node gives to its children
abbrev pub kept_by : Option Best → List ℕ → List ℕ
kept_by None first = first
kept_by (Some best) first = best.prices

-- its best prices, or its first where no version was complete
abbrev pub kept_prices : Node → List ℕ
kept_prices node = kept_by node.best node.first_prices
