-- What worked plans have in common: they state the sizes of their instance, a budget of 1,000 and no cuts.
use Rattle.std.specs.Prelude.{ℕ, [], List, length, Some, None}
use Rattle.plan_base.specs.declared.parts.Parts.{Parts}
use Rattle.plan_base.specs.declared.path.Design.{Design}
use Rattle.plan_base.specs.Places.{is_two_way}
use Rattle.proof_tree.specs.declared.tree.TreeNode.{TreeNode}
use Rattle.proof_tree.specs.declared.plan.PlanStatus.TheVariants.{Optimal, Infeasible}
use Rattle.proof_tree.specs.declared.plan.Plan.{Plan}

-- a plan that the instance has no design, with so many examinations
abbrev pub infeasible_plan : Parts → ℕ → List TreeNode → Plan
infeasible_plan p examined tree = record {
  nodes = p.nodes;
  links = length p.links;
  demands = length p.demands;
  both = is_two_way p.orient;
  status = Infeasible;
  budget = 1000;
  examined = examined;
  design = None;
  bound = None;
  cuts = [];
  tree = tree;
}

-- a plan that this design of this cost is optimal
abbrev pub optimal_plan : Parts → ℕ → Design → ℕ → List TreeNode → Plan
optimal_plan p cost design examined tree = record (infeasible_plan p examined tree) { status = Optimal; design = Some (cost, design) }
