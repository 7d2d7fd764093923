-- What makes a worked plan valid beside its tree.
use Rattle.std.proofs.Common.{◌≡◌, ℕ, ◌≤◌, false, List, refl, Some, None}
use Rattle.std.specs.Prelude.{not, count_by}
use Rattle.std.specs.List.{list_any}
use Rattle.plan_base.specs.declared.parts.Parts.{Parts}
use Rattle.plan_base.specs.declared.path.Design.{Design}
use Rattle.proof_tree.specs.declared.tree.TreeNode.{TreeNode}
use Rattle.proof_tree.specs.Trees.{IsValidTree}
use Rattle.proof_tree.specs.Plans.{is_open, needs_cost, IsStatedDesign, IsValidPlan}
use Rattle.proof_tree.specs.WorkedPlans.{infeasible_plan, optimal_plan}
use Rattle.proof_tree.proofs.CutlessPlans.{tree-without, no_cuts}

-- the count is that of the records but open leaves, which is none
pub record IsWhole (examined : ℕ) (tree : List TreeNode) : Type 0 where
  pub examined_is : examined ≡ count_by (λ node. not (is_open node)) tree
  pub within_budget : examined ≤ 1000
  pub closed : list_any is_open tree ≡ false

-- a worked plan without a design is valid where its tree is, and no leaf needs a cost
pub infeasible-valid : (p : Parts) (examined : ℕ) (tree : List TreeNode) → IsWhole examined tree → list_any needs_cost tree ≡ false → IsValidTree p None tree → IsValidPlan p (infeasible_plan p examined tree)
infeasible-valid p examined tree whole without_cost valid = record {
  sizes = record { nodes = refl; links = refl; demands = refl; both = refl };
  examined = whole.examined_is;
  design = tt;
  cuts = no_cuts p;
  tree = (tree-without p None tree).0 valid;
  status = record { no_design = refl; closed = whole.closed; without_cost = without_cost; within_budget = whole.within_budget };
}

-- a worked plan of a design is valid where the design is as it states, and its tree is valid against the cost
pub optimal-valid : (p : Parts) (cost : ℕ) (design : Design) (examined : ℕ) (tree : List TreeNode) → IsStatedDesign p cost design → IsWhole examined tree → IsValidTree p (Some cost) tree → IsValidPlan p (optimal_plan p cost design examined tree)
optimal-valid p cost design examined tree stated whole valid = record {
  sizes = record { nodes = refl; links = refl; demands = refl; both = refl };
  examined = whole.examined_is;
  design = stated;
  cuts = no_cuts p;
  tree = (tree-without p (Some cost) tree).0 valid;
  status = record { design = refl; closed = whole.closed; within_budget = whole.within_budget };
}
