-- The records of the subtrees of a search's starts are valid trees of their regions, where its leaves have their evidence.
use Rattle.std.proofs.Common.{◌≡◌, ℕ, zero, suc, ◌+◌, ◌<◌, ◌≤◌, List, ◌∷◌, ◌++◌, length, Option, sym, ap, subst, subst₂, arith, append_assoc}
use Rattle.plan_base.specs.declared.parts.Parts.{Parts}
use Rattle.proof_tree.specs.declared.cuts.Cut.{Cut}
use Rattle.proof_tree.specs.declared.tree.TreeNode.{TreeNode}
use Rattle.proof_tree.specs.Regions.{Region}
use Rattle.proof_tree.specs.RatedTrees.{AreRatedTrees}
use Rattle.branch_tree.specs.declared.node.Divider.{Divider}
use Rattle.branch_tree.specs.declared.node.Divider.TheVariants as divider
use Rattle.branch_tree.specs.declared.node.Division.{Division}
use Rattle.branch_tree.specs.declared.node.Fate.{Fate}
use Rattle.branch_tree.specs.declared.node.Fate.TheVariants.{Undone, ClosedBy, DividedBy}
use Rattle.branch_tree.specs.declared.node.BranchNode.{BranchNode}
use Rattle.branch_tree.specs.Branches.{region_by, narrowed, left_limit, right_limit, tree_node_at, no_tree_node, limits_at, region_at, IsDivider, IsFateOf, IsTreeOf, HasItsEvidence, HaveTheirEvidence}
use Rattle.branch_tree.specs.Records.{split_record, record_by, below_by, records_at, HasLaterChildren, AreInherited}
use Rattle.branch_tree.proofs.RecordLaws.{records_at-suc}
use Rattle.plan_merge.specs.Starts.{AreForest, forest_from, regions_from}

module _ (p : Parts) (cuts : List Cut) (cost : Option ℕ) (nodes : List BranchNode) (starts : ℕ) (are : AreForest nodes starts) (of : IsTreeOf p nodes) (shown : HaveTheirEvidence p cuts cost nodes) where
  -- the records of a subtree are a valid tree at its node's region, in front of others
  subtree-valid : (depth n : ℕ) (gs : List Region) (others : List TreeNode) → n < length nodes → length nodes ≤ depth + n → AreRatedTrees p cuts cost gs others
      → AreRatedTrees p cuts cost (region_at p nodes n ∷ gs) (records_at depth nodes n ++ others)
  subtree-valid zero n gs others within deep valid = absurd (omega arith)
  subtree-valid (suc depth) n gs others within deep valid =
      subst (λ (records : List TreeNode). AreRatedTrees p cuts cost (region_at p nodes n ∷ gs) (records ++ others)) (sym (records_at-suc nodes depth n within))
      (by_fate (λ m more rest later inside. subtree-valid depth m more rest inside (omega arith)) (tree_node_at nodes n).fate (are.later n within) (are.inherited n within) (of n no_tree_node within).fate (shown n no_tree_node within))
    where
      -- the subtrees of both children, at the regions that their limits leave
      both : ((m : ℕ) (more : List Region) (rest : List TreeNode) → n < m → m < length nodes → AreRatedTrees p cuts cost more rest → AreRatedTrees p cuts cost (region_at p nodes m ∷ more) (records_at depth nodes m ++ rest))
          → (d : Division) → HasLaterChildren (length nodes) n (DividedBy d) → AreInherited (limits_at nodes) (limits_at nodes n) (DividedBy d)
          → AreRatedTrees p cuts cost (narrowed (region_at p nodes n) (left_limit d.by) ∷ narrowed (region_at p nodes n) (right_limit d.by) ∷ gs) ((records_at depth nodes d.left_child.0 ++ records_at depth nodes d.right_child.0) ++ others)
      both deeper d later inherited =
          let left : region_at p nodes d.left_child.0 ≡ narrowed (region_at p nodes n) (left_limit d.by) = ap (region_by p) inherited.0 in
          let right : region_at p nodes d.right_child.0 ≡ narrowed (region_at p nodes n) (right_limit d.by) = ap (region_by p) inherited.1 in
          let after_left = deeper d.right_child.0 gs others later.2 later.3 valid in
          let all = deeper d.left_child.0 (region_at p nodes d.right_child.0 ∷ gs) (records_at depth nodes d.right_child.0 ++ others) later.0 later.1 after_left in
          subst (λ (records : List TreeNode). AreRatedTrees p cuts cost (narrowed (region_at p nodes n) (left_limit d.by) ∷ narrowed (region_at p nodes n) (right_limit d.by) ∷ gs) records) (sym (append_assoc (records_at depth nodes d.left_child.0) (records_at depth nodes d.right_child.0) others))
          (subst₂ (λ (g h : Region). AreRatedTrees p cuts cost (g ∷ h ∷ gs) (records_at depth nodes d.left_child.0 ++ (records_at depth nodes d.right_child.0 ++ others))) left right all)

      -- the record of a split stands before the subtrees of its children
      split_first : (by : Divider) (rest : List TreeNode) → IsDivider p (region_at p nodes n) by
          → AreRatedTrees p cuts cost (narrowed (region_at p nodes n) (left_limit by) ∷ narrowed (region_at p nodes n) (right_limit by) ∷ gs) rest → AreRatedTrees p cuts cost (region_at p nodes n ∷ gs) (split_record by ∷ rest)
      split_first (divider.Arcs d) rest is below = (is.is_split, below)
      split_first (divider.Load d) rest is below = (is, below)

      by_fate : ((m : ℕ) (more : List Region) (rest : List TreeNode) → n < m → m < length nodes → AreRatedTrees p cuts cost more rest → AreRatedTrees p cuts cost (region_at p nodes m ∷ more) (records_at depth nodes m ++ rest))
          → (fate : Fate) → HasLaterChildren (length nodes) n fate → AreInherited (limits_at nodes) (limits_at nodes n) fate → IsFateOf p (region_at p nodes n) fate → HasItsEvidence p cuts cost (region_at p nodes n) (tree_node_at nodes n).prices fate
          → AreRatedTrees p cuts cost (region_at p nodes n ∷ gs) ((record_by (tree_node_at nodes n).prices fate ∷ below_by (records_at depth nodes) fate) ++ others)
      by_fate deeper Undone later inherited is_fate has = (has, valid)
      by_fate deeper (ClosedBy found) later inherited is_fate has = (has, valid)
      by_fate deeper (DividedBy d) later inherited is_fate has = split_first d.by _ is_fate (both deeper d later inherited)

  -- so many starts from one on
  pub forest-valid : (k n : ℕ) → n + k ≤ length nodes → AreRatedTrees p cuts cost (regions_from p k n nodes) (forest_from k n nodes)
  forest-valid zero n within = tt
  forest-valid (suc k) n within = subtree-valid (length nodes) n (regions_from p k (suc n) nodes) (forest_from k (suc n) nodes) (omega arith) (omega arith) (forest-valid k (suc n) (omega arith))
