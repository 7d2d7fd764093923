-- A split where two paths part, from its steps, and the tree after it.
use Rattle.std.proofs.Common.{◌<◌, ◌≤◌, ℕ, List, length, sym, subst}
use Rattle.plan_base.specs.declared.ids.NodeId.{NodeId}
use Rattle.plan_base.specs.declared.ids.ArcId.{ArcId}
use Rattle.plan_base.specs.declared.ids.BranchId.{BranchId}
use Rattle.plan_base.specs.declared.ids.DemandId.{DemandId}
use Rattle.plan_base.specs.declared.parts.Parts.{Parts}
use Rattle.plan_base.specs.declared.limits.TheConstants.{MAX_TOTAL_LOAD}
use Rattle.plan_base.specs.Facts.{total_load}
use Rattle.plan_base.specs.Arcs.{demand_at}
use Rattle.plan_base.specs.Paths.{IsSimplePath}
use Rattle.branch_tree.specs.declared.node.BranchNode.{BranchNode}
use Rattle.branch_tree.specs.declared.node.LoadSplit.{LoadSplit}
use Rattle.branch_tree.specs.Dealing.{AreDealt}
use Rattle.branch_tree.specs.Branches.{no_tree_node, restriction_at, ranges_at, region_at, arcs_split, IsDivided, PartAtNode, IsSplitAt, IsLoadSplitAt, IsTreeOf}
use Rattle.branch_tree.proofs.DealingLaws.{dealt-branching}
use Rattle.branch_tree.proofs.LimitLaws.{load-sides}
use Rattle.branch_tree.proofs.BranchLaws.{open-within, arc-sides, tree_of-with_division}

module _ (p : Parts) (old : List BranchNode) (node : ℕ) (id : DemandId) (first second : List ArcId) where
  -- two permitted paths part, the arcs there are dealt out, and the node is divided
  pub split-at : id.0 < length p.demands → IsSimplePath p (demand_at p id.0) first → IsSimplePath p (demand_at p id.0) second
      → (found : NodeId × ArcId × ArcId) → PartAtNode p (restriction_at old node) id first second found → (left right : List ArcId) → AreDealt p (restriction_at old node) id found.0 found.1 found.2 left right
      → (ids : BranchId × BranchId) (new : List BranchNode) → IsDivided old node (arcs_split id found.0 left right) ids new → IsSplitAt p old node id first second ids new
  split-at demand first_is second_is found part left right dealt ids new divided = record {
    found = found;
    part = part;
    left = left;
    right = right;
    dealt = dealt;
    branching = dealt-branching p (restriction_at old node) id found.0 found.1 found.2 first second left right demand part.within (record { simple = first_is; permitted = part.first_permitted }) (record { simple = second_is; permitted = part.second_permitted }) part.part dealt;
    divided = divided;
  }

  -- the tree stays one for the instance
  pub tree_of-split : (ids : BranchId × BranchId) (new : List BranchNode) → IsTreeOf p old → IsSplitAt p old node id first second ids new → IsTreeOf p new
  tree_of-split ids new are split =
      let within = open-within old node split.divided.open_before in
      subst (IsTreeOf p) (sym split.divided.new_is)
      (tree_of-with_division p old node _ within are split.branching
      (arc-sides p (restriction_at old node) (ranges_at p old node) id split.found.0 split.left split.right (are node no_tree_node within).ranges split.branching))

-- the tree after a split by loads is one for the instance
pub tree_of-load_split : (p : Parts) (old : List BranchNode) (node : ℕ) (split : LoadSplit) (ids : BranchId × BranchId) (new : List BranchNode) → total_load p ≤ MAX_TOTAL_LOAD → IsTreeOf p old → IsLoadSplitAt p old node split ids new → IsTreeOf p new
tree_of-load_split p old node split ids new total are at =
    let within = open-within old node at.divided.open_before in
    subst (IsTreeOf p) (sym at.divided.new_is)
    (tree_of-with_division p old node _ within are at.is_split
    (load-sides p (region_at p old node) split total (are node no_tree_node within).ranges at.is_split))
