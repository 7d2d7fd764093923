-- How the counts of a state fit its tree, and how deep the tree is.
use Rattle.std.specs.Prelude.{ℕ, zero, suc, ◌+◌, ◌-◌, ◌*◌, ◌^◌, ◌≡◌, ◌≤◌, List, length, Option, Some, None, sum_by}
use Rattle.plan_base.specs.declared.parts.Parts.{Parts}
use Rattle.proof_tree.specs.Regions.{whole}
use Rattle.search_machine.specs.Depth.{depth_below}
use Rattle.search_machine.specs.State.{Round, Node, State, region_of, left_of, left_in, divided_in, examined_in, Fate, Undone, ClosedBy, DividedBy}

-- how many versions a node has had: none while it waits, those that were complete where its round is, else one more
abbrev pub versions_in_round : ℕ → ℕ → ℕ
versions_in_round completed zero = completed
versions_in_round completed (suc left) = suc completed

-- the same by what became of the node: none while it waits, one more than were complete once it is closed or divided
abbrev pub versions_by : Fate → Option Round → ℕ → ℕ
versions_by Undone None completed = 0
versions_by Undone (Some round) completed = versions_in_round completed (left_of round)
versions_by (ClosedBy evidence) round completed = suc completed
versions_by (DividedBy division) round completed = suc completed

-- the same of a node
abbrev pub versions_of : Node → ℕ
versions_of node = versions_by node.fate node.round node.completed

-- the counts fit the tree
pub record AreSoundCounts (s : State) : Type 0 where
  pub examined : s.examined ≡ sum_by examined_in s.nodes
  pub within_budget : s.examined ≤ s.budget
  pub versions : s.next_version ≤ 1 + sum_by versions_of s.nodes
  pub accepted : s.accepted + sum_by left_in s.nodes + length s.problem.demands ≤ length s.problem.demands * s.next_version

-- the depth that is left, and the node's own, are together at most the branching depth
pub record IsShallow (p : Parts) (ends : ℕ → List ℕ) (node : Node) : Type 0 where
  pub within : depth_below p ends (region_of p node) + length node.limits ≤ depth_below p ends (whole p)

-- 2 to the depth that is left below a leaf; a divided node has passed its weight on
abbrev pub weight_by : ℕ → ℕ → ℕ
weight_by zero left = 2 ^ left
weight_by (suc divided) left = 0

-- the weight of a node under a tree of this depth
abbrev pub weight_in : ℕ → Node → ℕ
weight_in depth node = weight_by (divided_in node) (depth - length node.limits)
