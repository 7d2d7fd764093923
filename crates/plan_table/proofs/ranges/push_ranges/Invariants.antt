use Rattle.std.proofs.Common.{◌∷◌, [], ◌++◌, drop}
use Rattle.proof_tree.specs.Regions.{whole}
use Rattle.proof_tree.specs.Plans.{stated_cost}
use Rattle.plan_table.specs.Tables.{tree_ranges}
use Rattle.plan_table.proofs.RangeSteps.{IsLeft}
use Rattle.plan_table.proofs.ranges.push_ranges.Given as goal

-- the lines of the records before this one are written
abbrev pub invariant-loop-index : goal.invariant-loop-index
invariant-loop-index l = IsLeft l.named.net l.named.parts l.named.plan.cuts (stated_cost l.named.plan) l.index l.pending.items (drop l.index l.nodes) l.text.items (l.fn.text.items ++ tree_ranges l.named.net l.named.parts 0 (whole l.named.parts ∷ []) l.nodes)
