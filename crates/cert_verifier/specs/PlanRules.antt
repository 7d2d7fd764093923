-- The rules of a plan, in their order.
use Rattle.std.specs.Prelude.{ℕ, zero, suc, ◌≡◌, ◌≢◌, ◌<◌, ◌≤◌, not, List, length, count_by, IsTrue, Option, Some, None, MatchOption, ℤ}
use Rattle.std.specs.Option.{option_map}
use Rattle.std.specs.List.{list_any}
use Rattle.plan_base.specs.declared.parts.Parts.{Parts}
use Rattle.plan_base.specs.declared.path.Design.{Design}
use Rattle.plan_base.specs.DesignFaults.{design_fault}
use Rattle.plan_base.specs.Designs.{cost_of}
use Rattle.proof_tree.specs.declared.cuts.Cut.{Cut}
use Rattle.proof_tree.specs.declared.tree.TreeNode.{TreeNode}
use Rattle.proof_tree.specs.declared.plan.PlanStatus.{PlanStatus}
use Rattle.proof_tree.specs.declared.plan.PlanStatus.TheVariants.{Optimal, Infeasible, Undecided}
use Rattle.proof_tree.specs.declared.plan.Plan.{Plan}
use Rattle.proof_tree.specs.Cuts.{cut_at, IsCut}
use Rattle.proof_tree.specs.Plans.{is_open, HasSizes, IsCandidate, IsLeastCandidate}
use Rattle.cert_verifier.specs.declared.rejected.Rejected.{Rejected}
use Rattle.cert_verifier.specs.declared.rejected.Rejected.TheVariants.{Design as WrongDesign, Cost, Cuts, Counts, Bound, Kind, OutOfMemory, Size, Budget}
use Rattle.cert_verifier.specs.Rules.{unless, ◌then_by◌}
use Rattle.cert_verifier.specs.RecordRules.{TreeFinds}

-- what is wrong with a stated design, or else with its stated cost, in cost grains
abbrev pub DesignFinds : Parts → Option (ℕ × Design) → Option Rejected → Type 0
DesignFinds p None found = found ≡ None
DesignFinds p (Some (cost, d)) found =
    ((λ first. first ≡ option_map WrongDesign (design_fault p d))
    then_by unless (cost_of p d ≡ cost) (Cost cost (cost_of p d))) found

-- the cut of this number is one of the instance, and no earlier one is the same
pub record IsNewCut (p : Parts) (cuts : List Cut) (number : ℕ) : Type 0 where
  pub is_cut : IsCut p (cut_at cuts number)
  pub is_new : (i : ℕ) → i < number → cut_at cuts i ≢ cut_at cuts number

-- the first cut before a count that is none of the instance, or is the same as an earlier one
abbrev pub CutsFind : Parts → List Cut → ℕ → Option Rejected → Type 0
CutsFind p cuts zero found = found ≡ None
CutsFind p cuts (suc n) found = (CutsFind p cuts n then_by unless (IsNewCut p cuts n) (Cuts n)) found

-- how many records are splits or closed leaves
abbrev pub examined_count : List TreeNode → ℕ
examined_count nodes = count_by (λ node. not (is_open node)) nodes

-- an undecided plan has an open leaf
abbrev pub HasItsOpen : PlanStatus → List TreeNode → Type 0
HasItsOpen Optimal nodes = Unit {0}
HasItsOpen Infeasible nodes = Unit {0}
HasItsOpen Undecided nodes = IsTrue (list_any is_open nodes)

-- no more is examined than the budget, and all of it in an undecided plan
abbrev pub KeepsBudget : PlanStatus → ℕ → ℕ → Type 0
KeepsBudget Optimal examined budget = examined ≤ budget
KeepsBudget Infeasible examined budget = examined ≤ budget
KeepsBudget Undecided examined budget = examined ≡ budget

-- the least of the stated cost and the bounds of open leaves, in cost grains, or none where there are none of these
abbrev pub IsLeastOfAll : Parts → Plan → Option ℤ → Type 0
IsLeastOfAll p plan bound = MatchOption bound ((bound : ℤ) → IsCandidate p plan bound → ⊥) (λ bound. IsLeastCandidate p plan bound)

-- an undecided plan states another bound than it has
abbrev pub BoundFinds : Parts → Plan → PlanStatus → Option Rejected → Type 0
BoundFinds p plan Optimal found = found ≡ None
BoundFinds p plan Infeasible found = found ≡ None
BoundFinds p plan Undecided found =
    (least : Option ℤ) × IsLeastOfAll p plan least × unless (plan.bound ≡ least) (Bound plan.bound least) found

-- the rules of an open leaf, the count and the budget
abbrev pub CountsFind : Plan → Option Rejected → Type 0
CountsFind plan =
    unless (HasItsOpen plan.status plan.tree) (Kind (length plan.tree))
    then_by unless (plan.examined ≡ examined_count plan.tree) (Counts plan.examined (examined_count plan.tree))
    then_by unless (KeepsBudget plan.status plan.examined plan.budget) (Budget plan.examined plan.budget)

-- the first rule that the plan breaks: sizes, the design and its cost, the cuts, the records, an open leaf where it is
-- undecided, the count of what was examined, the budget, and the bound
unfoldable pub PlanFinds : Parts → Plan → Option Rejected → Type 0
PlanFinds p plan =
    unless (HasSizes p plan) Size
    then_by DesignFinds p plan.design
    then_by CutsFind p plan.cuts (length plan.cuts)
    then_by TreeFinds p plan plan.tree
    then_by CountsFind plan
    then_by BoundFinds p plan plan.status

-- what is told of a plan: want of memory may be told of any, each other fault only where it is the first
abbrev pub IsRejection : Parts → Plan → Rejected → Type 0
IsRejection p plan fault = fault ≢ OutOfMemory → PlanFinds p plan (Some fault)
