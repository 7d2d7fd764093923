-- Valid plans, with their cuts, and what they claim.
use Rattle.std.specs.Prelude.{ℕ, ◌≡◌, ◌≤◌, ◌⊎◌, Bool, true, false, not, List, length, count_by, IsTrue, Any, Option, IsSome, IsNone, IfSome, IfNone, IsSomeAnd, MatchOption, ℤ, pos, ◌≤ℤ◌}
use Rattle.std.specs.Option.{option_map}
use Rattle.std.specs.List.{list_any}
use Rattle.plan_base.specs.declared.parts.Parts.{Parts}
use Rattle.plan_base.specs.declared.path.Design.{Design}
use Rattle.plan_base.specs.Places.{is_two_way}
use Rattle.plan_base.specs.Designs.{IsDesign, IsFeasible, IsGoodDesign, cost_of}
use Rattle.proof_tree.specs.declared.cuts.Cut.{Cut}
use Rattle.proof_tree.specs.declared.tree.Evidence.{Evidence}
use Rattle.proof_tree.specs.declared.tree.Evidence.TheVariants.{Bound, Routed, Open}
use Rattle.proof_tree.specs.declared.tree.TreeNode.{TreeNode}
use Rattle.proof_tree.specs.declared.tree.TreeNode.TheVariants.{Leaf}
use Rattle.proof_tree.specs.declared.plan.PlanStatus.{PlanStatus}
use Rattle.proof_tree.specs.declared.plan.PlanStatus.TheVariants.{Optimal, Infeasible, Undecided}
use Rattle.proof_tree.specs.declared.plan.Plan.{Plan}
use Rattle.plan_base.specs.Claims.{IsOptimal, HasNoDesign}
use Rattle.proof_tree.specs.Regions.{Region}
use Rattle.proof_tree.specs.Cuts.{IsCutList}
use Rattle.proof_tree.specs.Trees.{leaves_of}
use Rattle.proof_tree.specs.RatedEvidence.{IsBoundAt}
use Rattle.proof_tree.specs.RatedTrees.{IsRatedTree}

-- the cost that the plan states for its design
abbrev pub stated_cost : Plan → Option ℕ
stated_cost plan = option_map (λ design. design.0) plan.design

-- a leaf that is left open
abbrev pub is_open : TreeNode → Bool
is_open (Leaf (Open prices)) = true
is_open _ = false

-- a leaf that is closed against a cost
abbrev pub needs_cost : TreeNode → Bool
needs_cost (Leaf (Bound prices)) = true
needs_cost (Leaf Routed) = true
needs_cost _ = false

-- the plan states the sizes of the instance, and whether each link has two places
pub record HasSizes (p : Parts) (plan : Plan) : Type 0 where
  pub nodes : plan.nodes ≡ p.nodes
  pub links : plan.links ≡ length p.links
  pub demands : plan.demands ≡ length p.demands
  pub both : plan.both ≡ is_two_way p.orient

-- the plan's design is feasible, in shape, and has its stated cost
pub record IsStatedDesign (p : Parts) (cost : ℕ) (d : Design) : Type 0 where
  pub good : IsGoodDesign p d
  pub cost_is : cost_of p d ≡ cost

-- a design, and no open leaf
pub record IsOptimalPlan (plan : Plan) : Type 0 where
  pub design : IsSome plan.design
  pub closed : list_any is_open plan.tree ≡ false
  pub within_budget : plan.examined ≤ plan.budget

-- no design, and only leaves that are closed without a cost
pub record IsInfeasiblePlan (plan : Plan) : Type 0 where
  pub no_design : IsNone plan.design
  pub closed : list_any is_open plan.tree ≡ false
  pub without_cost : list_any needs_cost plan.tree ≡ false
  pub within_budget : plan.examined ≤ plan.budget

-- the bound of an open leaf with this region
abbrev pub IsOpenBound : Parts → List Cut → Region → Evidence → ℤ → Type 0
IsOpenBound p cuts g (Open numbers) bound = IsBoundAt p cuts g numbers bound
IsOpenBound p cuts g _ bound = ⊥

-- the stated cost, or the bound of an open leaf: an undecided plan's bound is the least of these
abbrev pub IsCandidate : Parts → Plan → ℤ → Type 0
IsCandidate p plan bound =
    IsSomeAnd (stated_cost plan) (λ cost. pos cost ≡ bound)
    ⊎ Any (λ leaf. IsOpenBound p plan.cuts leaf.region leaf.evidence bound) (leaves_of p plan.tree)

-- the least candidate
pub record IsLeastCandidate (p : Parts) (plan : Plan) (bound : ℤ) : Type 0 where
  pub is_candidate : IsCandidate p plan bound
  pub least : (other : ℤ) → IsCandidate p plan other → bound ≤ℤ other

-- an open leaf, the budget spent, and as bound the least candidate, or none where there is no candidate
pub record IsUndecidedPlan (p : Parts) (plan : Plan) : Type 0 where
  pub some_open : IsTrue (list_any is_open plan.tree)
  pub spent : plan.examined ≡ plan.budget
  pub without_cost : IfNone plan.design (list_any needs_cost plan.tree ≡ false)
  pub bound : MatchOption plan.bound ((bound : ℤ) → IsCandidate p plan bound → ⊥) (λ bound. IsLeastCandidate p plan bound)

-- the plan meets the rules of this status
abbrev pub HasStatus : Parts → Plan → PlanStatus → Type 0
HasStatus p plan Optimal = IsOptimalPlan plan
HasStatus p plan Infeasible = IsInfeasiblePlan plan
HasStatus p plan Undecided = IsUndecidedPlan p plan

-- the plan states what it has: sizes, a count, a list of cuts, a design with its cost, a tree that is valid with these cuts
-- against that cost, and what its status asks
pub record IsValidPlan (p : Parts) (plan : Plan) : Type 0 where
  pub sizes : HasSizes p plan
  pub examined : plan.examined ≡ count_by (λ node. not (is_open node)) plan.tree
  pub cuts : IsCutList p plan.cuts
  pub design : IfSome plan.design (λ design. IsStatedDesign p design.0 design.1)
  pub tree : IsRatedTree p plan.cuts (stated_cost plan) plan.tree
  pub status : HasStatus p plan plan.status

-- each feasible design costs at least the bound
abbrev pub IsUndercutByNone : Parts → ℤ → Type 0
IsUndercutByNone p bound = (d : Design) → IsDesign p d → IsFeasible p d → bound ≤ℤ pos (cost_of p d)

-- what a plan of each status claims
abbrev pub ClaimHolds : Parts → Plan → PlanStatus → Type 0
ClaimHolds p plan Optimal = IsSomeAnd plan.design (λ design. IsOptimal p design.1)
ClaimHolds p plan Infeasible = HasNoDesign p
ClaimHolds p plan Undecided = MatchOption plan.bound (HasNoDesign p) (λ bound. IsUndercutByNone p bound)

-- the plan's own claim is so
abbrev pub HasItsClaim : Parts → Plan → Type 0
HasItsClaim p plan = ClaimHolds p plan plan.status
