-- The plan of a state: its cuts, its tree in preorder, with open leaves at their kept prices, its incumbent and its counts.
use Rattle.std.specs.Prelude.{ℕ, ◌≤ℤ◌, ⊤, ◌≡◌, Bool, true, false, ◌||◌, ◌==◌, List, [], ◌∷◌, ◌++◌, length, Option, Some, None, option_map, sum_by, MatchOption, ℤ, nat_lt}
use Rattle.plan_base.specs.declared.parts.Parts.{Parts}
use Rattle.plan_base.specs.declared.path.Design.{Design}
use Rattle.plan_base.specs.Places.{is_two_way}
use Rattle.proof_tree.specs.declared.tree.TreeNode.{TreeNode}
use Rattle.proof_tree.specs.declared.tree.TreeNode.TheVariants.{Split, Loads, Leaf}
use Rattle.proof_tree.specs.declared.plan.Plan.{Plan}
use Rattle.proof_tree.specs.declared.plan.PlanStatus.{PlanStatus}
use Rattle.proof_tree.specs.declared.plan.PlanStatus.TheVariants.{Optimal, Infeasible, Undecided}
use Rattle.proof_tree.specs.Regions.{Region, whole}
use Rattle.proof_tree.specs.Trees.{children_at}
use Rattle.proof_tree.specs.Bounds.{IsOpeningBound}
use Rattle.proof_tree.specs.Splits.{PartsTwoPaths}
use Rattle.proof_tree.specs.Plans.{IsCandidate, IsLeastCandidate}
use Rattle.branch_tree.specs.Records.{preorder_by, preorder_in, preorder_at}
use Rattle.search_machine.specs.Dividing.{PartsSteps}
use Rattle.search_machine.specs.State.{Node, State, kept_prices, Fate, Undone, ClosedBy, DividedBy, Incumbent}

-- the records of a subtree whose children's records a function tells
abbrev pub records_by : (ℕ → List TreeNode) → Node → Fate → List TreeNode
records_by below node fate = preorder_by below (kept_prices node) fate

-- the same of the node that is there, or no records
abbrev pub records_in : (ℕ → List TreeNode) → Option Node → List TreeNode
records_in below node = preorder_in kept_prices (λ x. x.fate) below node

-- the records of the subtree at a number, down to a depth
abbrev pub records_at : ℕ → List Node → ℕ → List TreeNode
records_at depth nodes n = preorder_at kept_prices (λ x. x.fate) depth nodes n

-- no path down the tree has more nodes than there are
abbrev pub tree_of : State → List TreeNode
tree_of s = records_at (length s.nodes) s.nodes 0

-- 1 for an open leaf
abbrev pub open_by : Fate → ℕ
open_by Undone = 1
open_by (ClosedBy found) = 0
open_by (DividedBy d) = 0

-- how many leaves are open
abbrev pub open_count : State → ℕ
open_count s = sum_by (λ node. open_by node.fate) s.nodes

-- the budget is spent, or no leaf is open
abbrev pub is_done : State → Bool
is_done s = s.examined == s.budget || open_count s == 0

-- undecided where a leaf is open; else optimal with a design and infeasible without one
abbrev pub status_by : Bool → Option Incumbent → PlanStatus
status_by true held = Undecided
status_by false (Some held) = Optimal
status_by false None = Infeasible

-- the status of the state's plan
abbrev pub status_of : State → PlanStatus
status_of s = status_by (nat_lt 0 (open_count s)) s.incumbent

-- the design and its cost, as a plan states them
abbrev pub stated_design : Option Incumbent → Option (ℕ × Design)
stated_design held = option_map (λ x. (x.cost, x.design)) held

-- the bound of an undecided plan is its least limit, or none where it has no limit; another plan states none
abbrev pub HasBoundOf : Parts → Plan → PlanStatus → Type 0
HasBoundOf p plan Optimal = plan.bound ≡ None
HasBoundOf p plan Infeasible = plan.bound ≡ None
HasBoundOf p plan Undecided = MatchOption plan.bound ((bound : ℤ) → IsCandidate p plan bound → ⊥) (λ bound. IsLeastCandidate p plan bound)

-- the plan is that of the state
pub record IsPlanOf (s : State) (plan : Plan) : Type 0 where
  pub nodes : plan.nodes ≡ s.problem.nodes
  pub links : plan.links ≡ length s.problem.links
  pub demands : plan.demands ≡ length s.problem.demands
  pub both : plan.both ≡ is_two_way s.problem.orient
  pub status : plan.status ≡ status_of s
  pub budget : plan.budget ≡ s.budget
  pub examined : plan.examined ≡ s.examined
  pub design : plan.design ≡ stated_design s.incumbent
  pub cuts : plan.cuts ≡ s.cuts
  pub tree : plan.tree ≡ tree_of s
  pub bound : HasBoundOf s.problem plan plan.status

-- a stated bound is at least the bound of the root at the start prices
abbrev pub HasOpeningBound : Parts → Plan → Type 0
HasOpeningBound p plan = (opening bound : ℤ) → IsOpeningBound p opening → plan.bound ≡ Some bound → opening ≤ℤ bound

-- a split at this region parts two permitted paths of its demand, or two steps of its place's link
abbrev pub SplitParts : Parts → Region → TreeNode → Type 0
SplitParts p g (Leaf evidence) = ⊤
SplitParts p g (Split k at left right) = PartsTwoPaths p g.forbidden k left right
SplitParts p g (Loads place load) = PartsSteps p g.ranges (record { place = place; load = load })

-- in these subtrees, which stand at these regions, each split does so
abbrev pub SplitsPart : Parts → List Region → List TreeNode → Type 0
SplitsPart p [] nodes = ⊤
SplitsPart p (g ∷ gs) [] = ⊤
SplitsPart p (g ∷ gs) (node ∷ nodes) = SplitParts p g node × SplitsPart p (children_at g node ++ gs) nodes

-- each split of the tree parts two permitted paths of its demand, or two steps of its place's link
abbrev pub PartsPaths : Parts → List TreeNode → Type 0
PartsPaths p nodes = SplitsPart p (whole p ∷ []) nodes
