-- What a plan is put together from: a state, its records in preorder, and its bound; of it public contracts cite `IsAssembled` alone.
use Rattle.std.specs.Prelude.{ℕ, zero, suc, ◌≤ℤ◌, ◌≡◌, ◌<◌, ◌≤◌, ◌⊎◌, ◌==◌, List, [], ◌∷◌, ◌++◌, length, count_by, Option, Some, None, IsSomeAnd, MatchOption, slice_get, All, ℤ, pos}
use Rattle.std.specs.Arc.{arc_value}
use Rattle.plan_base.specs.declared.ids.BranchId.{BranchId}
use Rattle.plan_base.specs.declared.parts.Parts.{Parts}
use Rattle.arc_restrict.specs.Restrictions.{Forbidden, HasNoPath}
use Rattle.arc_restrict.specs.Prices.{IsLeastPrice}
use Rattle.proof_tree.specs.declared.cuts.Cut.{Cut}
use Rattle.proof_tree.specs.RatedEvidence.{IsBoundAt}
use Rattle.proof_tree.specs.declared.tree.Evidence.TheVariants as evidence
use Rattle.proof_tree.specs.declared.tree.TreeNode.{TreeNode}
use Rattle.proof_tree.specs.declared.tree.TreeNode.TheVariants.{Leaf}
use Rattle.proof_tree.specs.declared.plan.PlanStatus.{PlanStatus}
use Rattle.proof_tree.specs.declared.plan.PlanStatus.TheVariants.{Optimal, Infeasible, Undecided}
use Rattle.search_machine.specs.Family.{HasChildrenBy}
use Rattle.branch_tree.specs.declared.node.Fate.{Fate}
use Rattle.branch_tree.specs.declared.node.Fate.TheVariants.{Undone, ClosedBy, DividedBy}
use Rattle.search_machine.specs.State.{Node, State, region_of, cutoff_of, kept_prices}
use Rattle.search_machine.specs.declared.limits.TheConstants.{MAX_BUDGET}
pub use Rattle.search_machine.specs.Machine.{IsReachable}
use Rattle.arc_restrict.specs.Rows.{forbids}
use Rattle.proof_tree.specs.Regions.{Region}
use Rattle.search_nodes.specs.Records.{record_of}
use Rattle.search_nodes.specs.Grounds.{Kept, HasGrounds}
use Rattle.search_nodes.specs.declared.search_state.SearchState.{SearchState}
pub use Rattle.search_nodes.specs.SearchStates.{machine_state}

-- what a plan is put together from shows a state that events lead to, with the table of its instance and its cuts and the
-- regions of its open leaves
pub record IsAssembled (a : SearchState) : Type 0 where
  pub reachable : IsReachable (machine_state a)
  pub some_budget : 0 < a.budget
  pub budget : a.budget ≤ MAX_BUDGET
  pub table_is : (arc_value a.table).problem ≡ arc_value a.problem
  pub has_grounds : HasGrounds (arc_value a.problem) a.nodes.items a.grounds.items

-- Records

-- the record of the node that is there; the value without one is never read
abbrev pub record_in : Option Node → TreeNode
record_in None = Leaf evidence.Routed
record_in (Some node) = record_of node

-- the record of the node of this number
abbrev pub record_at : List Node → ℕ → TreeNode
record_at nodes n = record_in (slice_get nodes n)

-- the numbers that wait, and behind them the children of a node, the left one last
abbrev pub numbers_with_children : List ℕ → Option (BranchId × BranchId) → List ℕ
numbers_with_children waiting None = waiting
numbers_with_children waiting (Some children) = (waiting ++ (children.1.0 ∷ [])) ++ (children.0.0 ∷ [])

-- the numbers below a node whose children's numbers a function tells
abbrev pub numbers_by : (ℕ → List ℕ) → Fate → List ℕ
numbers_by below Undone = []
numbers_by below (ClosedBy found) = []
numbers_by below (DividedBy d) = below d.left_child.0 ++ below d.right_child.0

-- the number of the node that is there and those below it, or none
abbrev pub numbers_from : (ℕ → List ℕ) → ℕ → Option Node → List ℕ
numbers_from below n None = []
numbers_from below n (Some node) = n ∷ numbers_by below node.fate

-- the numbers of the subtree at a number, in preorder, down to a depth
abbrev pub numbers_at : ℕ → List Node → ℕ → List ℕ
numbers_at zero nodes n = []
numbers_at (suc depth) nodes n = numbers_from (numbers_at depth nodes) n (slice_get nodes n)

-- the numbers of the tree in preorder
abbrev pub preorder_of : List Node → List ℕ
preorder_of nodes = numbers_at (length nodes) nodes 0

-- each divided node has its two children, made later
abbrev pub HaveChildren : List Node → Type 0
HaveChildren nodes = (n : ℕ) (node : Node) → slice_get nodes n ≡ Some node → HasChildrenBy nodes n node node.fate

-- how often a number is in a list
abbrev pub times_in : ℕ → List ℕ → ℕ
times_in n ns = count_by (λ m. n == m) ns

-- each number below the count is there once, and no other
pub record IsOrderOf (count : ℕ) (order : List ℕ) : Type 0 where
  pub within : All (λ n. n < count) order
  pub once : (n : ℕ) → n < count → times_in n order ≡ 1

-- Bounds

-- the least price of the demand, or none where it has no permitted path
abbrev pub IsPriceOrNone : Parts → Forbidden → List ℕ → ℕ → Option ℕ → Type 0
IsPriceOrNone p r prices k found = MatchOption found (HasNoPath p r k) (λ price. IsLeastPrice p r prices k price)

-- the region that is kept
abbrev pub region_in : Kept → Region
region_in kept = record { forbidden = forbids kept.rows; ranges = kept.ranges }

-- the bound at these prices and rates, or none where they give none
abbrev pub IsBoundOrNone : Parts → List Cut → Region → List ℕ → Option ℤ → Type 0
IsBoundOrNone p cuts g numbers found = MatchOption found ((bound : ℤ) → IsBoundAt p cuts g numbers bound → ⊥) (λ bound. IsBoundAt p cuts g numbers bound)

-- the node of this number is an open leaf, and this is its bound at its kept prices
pub record IsLeafBound (s : State) (n : ℕ) (bound : ℤ) : Type 0 where
  pub node : Node
  pub is_node : slice_get s.nodes n ≡ Some node
  pub undone : node.fate ≡ Undone
  pub is_bound : IsBoundAt s.problem s.cuts (region_of s.problem node) (kept_prices node) bound

-- the bound of the node of this number, or none where it is no open leaf or has none
abbrev pub IsLeafBoundOrNone : State → ℕ → Option ℤ → Type 0
IsLeafBoundOrNone s n found = MatchOption found ((bound : ℤ) → IsLeafBound s n bound → ⊥) (λ bound. IsLeafBound s n bound)

-- the cost of the held design, or the bound of an open leaf of the first nodes
abbrev pub IsLimitBelow : State → ℕ → ℤ → Type 0
IsLimitBelow s count bound = IsSomeAnd (cutoff_of s) (λ cost. pos cost ≡ bound) ⊎ ((n : ℕ) × (n < count) × IsLeafBound s n bound)

-- the least of these
pub record IsLeastBelow (s : State) (count : ℕ) (bound : ℤ) : Type 0 where
  pub is_limit : IsLimitBelow s count bound
  pub least : (other : ℤ) → IsLimitBelow s count other → bound ≤ℤ other

-- the least of these, or none where there is none
abbrev pub IsLeastOrNone : State → ℕ → Option ℤ → Type 0
IsLeastOrNone s count found = MatchOption found ((bound : ℤ) → IsLimitBelow s count bound → ⊥) (λ bound. IsLeastBelow s count bound)

-- the bound that a plan of this status states
abbrev pub IsStatedBound : State → PlanStatus → Option ℤ → Type 0
IsStatedBound s Optimal bound = bound ≡ None
IsStatedBound s Infeasible bound = bound ≡ None
IsStatedBound s Undecided bound = IsLeastOrNone s (length s.nodes) bound
