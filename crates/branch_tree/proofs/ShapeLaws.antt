-- The records of a search tree are one whole tree.
use Rattle.std.proofs.Common.{◌≡◌, ℕ, zero, suc, ◌+◌, ◌<◌, ◌≤◌, true, List, [], ◌∷◌, ◌++◌, length, refl, sym, ap, ◌∙◌, arith, append_assoc}
use Rattle.std.proofs.lemmas.List.{append-nil}
use Rattle.proof_tree.specs.declared.tree.TreeNode.{TreeNode}
use Rattle.proof_tree.specs.Shapes.{are_trees}
use Rattle.branch_tree.specs.declared.node.Divider.{Divider}
use Rattle.branch_tree.specs.declared.node.Divider.TheVariants as divider
use Rattle.branch_tree.specs.declared.node.Fate.{Fate}
use Rattle.branch_tree.specs.declared.node.Fate.TheVariants.{Undone, ClosedBy, DividedBy}
use Rattle.branch_tree.specs.declared.node.BranchNode.{BranchNode}
use Rattle.branch_tree.specs.Branches.{tree_node_at}
use Rattle.branch_tree.specs.Records.{split_record, record_by, below_by, records_at, records_of, HasLaterChildren, AreNodes}
use Rattle.branch_tree.proofs.RecordLaws.{records_at-suc}

-- behind the record of a split there is one tree more to come
split-opens : (by : Divider) (k : ℕ) (records : List TreeNode) → are_trees (suc k) (split_record by ∷ records) ≡ are_trees (suc (suc k)) records
split-opens (divider.Arcs d) k records = refl
split-opens (divider.Load d) k records = refl

-- the records of a subtree are one whole tree in front of others
subtree-is_tree : (nodes : List BranchNode) (depth n k : ℕ) (others : List TreeNode) → AreNodes nodes → n < length nodes → length nodes ≤ depth + n → are_trees (suc k) (records_at depth nodes n ++ others) ≡ are_trees k others
subtree-is_tree nodes zero n k others are within deep = absurd (omega arith)
subtree-is_tree nodes (suc depth) n k others are within deep =
    ap (λ (records : List TreeNode). are_trees (suc k) (records ++ others)) (records_at-suc nodes depth n within)
    ∙ by_fate (λ m more rest later inside. subtree-is_tree nodes depth m more rest are inside (omega arith)) (tree_node_at nodes n).fate (are.later n within)
  where
    by_fate : ((m more : ℕ) (rest : List TreeNode) → n < m → m < length nodes → are_trees (suc more) (records_at depth nodes m ++ rest) ≡ are_trees more rest)
        → (fate : Fate) → HasLaterChildren (length nodes) n fate → are_trees (suc k) ((record_by (tree_node_at nodes n).prices fate ∷ below_by (records_at depth nodes) fate) ++ others) ≡ are_trees k others
    by_fate deeper Undone later = refl
    by_fate deeper (ClosedBy found) later = refl
    by_fate deeper (DividedBy d) later =
        split-opens d.by k _ ∙ ap (are_trees (suc (suc k))) (append_assoc (records_at depth nodes d.left_child.0) (records_at depth nodes d.right_child.0) others)
        ∙ deeper d.left_child.0 (suc k) (records_at depth nodes d.right_child.0 ++ others) later.0 later.1
        ∙ deeper d.right_child.0 k others later.2 later.3

-- the records of the nodes are one whole binary tree
pub records_of-is_tree : (nodes : List BranchNode) → AreNodes nodes → are_trees 1 (records_of nodes) ≡ true
records_of-is_tree nodes are = ap (are_trees 1) (sym (append-nil (records_of nodes))) ∙ subtree-is_tree nodes (length nodes) 0 0 [] are are.some (omega arith)
