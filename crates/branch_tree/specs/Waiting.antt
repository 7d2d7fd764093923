-- Nodes that wait for their records to be written. No public clause cites this module.
use Rattle.std.specs.Prelude.{List, [], ◌∷◌, ◌++◌}
use Rattle.plan_base.specs.declared.ids.BranchId.{BranchId}
use Rattle.branch_tree.specs.declared.node.Fate.{Fate}
use Rattle.branch_tree.specs.declared.node.Fate.TheVariants.{Undone, ClosedBy, DividedBy}

-- the nodes that wait, and behind them the children of a node, the left one last
abbrev pub with_children : List BranchId → Fate → List BranchId
with_children ids Undone = ids
with_children ids (ClosedBy found) = ids
with_children ids (DividedBy d) = (ids ++ (d.right_child ∷ [])) ++ (d.left_child ∷ [])
