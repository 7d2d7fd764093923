-- The record of a node in a tree, and the children that it names.
use Rattle.std.specs.Prelude.{Option, Some, None}
use Rattle.plan_base.specs.declared.ids.BranchId.{BranchId}
use Rattle.proof_tree.specs.declared.tree.TreeNode.{TreeNode}
use Rattle.branch_tree.specs.declared.node.Fate.{Fate}
use Rattle.branch_tree.specs.declared.node.Fate.TheVariants.{Undone, ClosedBy, DividedBy}
pub use Rattle.branch_tree.specs.Records.{record_by}
use Rattle.search_machine.specs.State.{Node, kept_prices}

-- the record of a node
abbrev pub record_of : Node → TreeNode
record_of node = record_by (kept_prices node) node.fate

-- the children of a divided node, the left one first
abbrev pub children_by : Fate → Option (BranchId × BranchId)
children_by Undone = None
children_by (ClosedBy found) = None
children_by (DividedBy d) = Some (d.left_child, d.right_child)
