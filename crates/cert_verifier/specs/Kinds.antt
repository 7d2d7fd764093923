-- Which leaves a plan of each status may have.
use Rattle.std.specs.Prelude.{ℕ, Bool, true, false, ◌||◌, ◌&&◌, Option, Some, None}
use Rattle.plan_base.specs.declared.path.Design.{Design}
use Rattle.proof_tree.specs.declared.plan.PlanStatus.{PlanStatus}
use Rattle.proof_tree.specs.declared.plan.PlanStatus.TheVariants.{Optimal, Infeasible, Undecided}
use Rattle.proof_tree.specs.declared.plan.Plan.{Plan}
use Rattle.proof_tree.specs.declared.tree.TreeNode.{TreeNode}
use Rattle.proof_tree.specs.Plans.{is_open, needs_cost}

-- there is none
abbrev pub is_none : {A : Type 0} → Option A → Bool
is_none None = true
is_none (Some a) = false

-- the plan leaves no leaf open
abbrev pub asks_closed : PlanStatus → Bool
asks_closed Optimal = true
asks_closed Infeasible = true
asks_closed Undecided = false

-- a plan of this status closes no leaf against a cost: it claims that there is none, or has none
abbrev pub asks_without_cost : PlanStatus → Option (ℕ × Design) → Bool
asks_without_cost Optimal design = false
asks_without_cost Infeasible design = true
asks_without_cost Undecided design = is_none design

-- a leaf that a plan of this status may not have
abbrev pub is_wrong_kind : Plan → TreeNode → Bool
is_wrong_kind plan node = (asks_closed plan.status && is_open node) || (asks_without_cost plan.status plan.design && needs_cost node)
