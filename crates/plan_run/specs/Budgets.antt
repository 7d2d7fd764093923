-- Budgets with which a search always decides.
use Rattle.std.specs.Prelude.{ℕ, ◌≤◌, ◌+◌, ◌-◌, ◌^◌}
use Rattle.plan_base.specs.declared.parts.Parts.{Parts}
use Rattle.search_machine.specs.Depth.{IsBranchingDepth}

-- a node for each place down to the branching depth of the instance
pub record CoversSplits (p : Parts) (budget : ℕ) : Type 0 where
  pub depth : ℕ
  pub is_depth : IsBranchingDepth p depth
  pub enough : 2 ^ (depth + 1) - 1 ≤ budget
