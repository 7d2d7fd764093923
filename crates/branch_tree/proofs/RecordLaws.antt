-- The records that are still to be written, while nodes wait for theirs.
use Rattle.std.proofs.Common.{◌≡◌, ℕ, zero, suc, ◌+◌, ◌<◌, ◌≤◌, List, [], ◌∷◌, ◌++◌, length, get_or, Some, slice_get, All, refl, sym, ap, ap₂, subst, subst₂, ◌∙◌, arith, append_assoc}
use Rattle.std.proofs.lemmas.List.{append-nil, get_or_default}
use Rattle.std.proofs.lemmas.List.Elements.{All-nil, All-cons, All-push, All-pop}
use Rattle.std.proofs.lemmas.Option.{slice_get-get_or}
use Rattle.plan_base.specs.declared.ids.BranchId.{BranchId}
use Rattle.proof_tree.specs.declared.tree.TreeNode.{TreeNode}
use Rattle.branch_tree.specs.declared.node.Fate.{Fate}
use Rattle.branch_tree.specs.declared.node.Fate.TheVariants.{Undone, ClosedBy, DividedBy}
use Rattle.branch_tree.specs.declared.node.BranchNode.{BranchNode}
use Rattle.branch_tree.specs.Branches.{tree_node_at, no_tree_node}
use Rattle.branch_tree.specs.Records.{record_by, below_by, records_in, records_at, records_of, HasLaterChildren, AreNodes}
use Rattle.branch_tree.specs.Waiting.{with_children}

-- the records of the subtree at a number, whole
abbrev pub subtree_at : List BranchNode → ℕ → List TreeNode
subtree_at nodes n = records_at (length nodes) nodes n

node_read : (nodes : List BranchNode) (n : ℕ) → n < length nodes → slice_get nodes n ≡ Some (tree_node_at nodes n)
node_read nodes n within = slice_get-get_or nodes n no_tree_node within

-- the records of a subtree are its root's and those of the children
pub records_at-suc : (nodes : List BranchNode) (depth n : ℕ) → n < length nodes → records_at (suc depth) nodes n ≡ record_by (tree_node_at nodes n).prices (tree_node_at nodes n).fate ∷ below_by (records_at depth nodes) (tree_node_at nodes n).fate
records_at-suc nodes depth n within = ap (records_in (records_at depth nodes)) (node_read nodes n within)

-- below a depth that reaches the end of the nodes, one level more changes nothing
deep_enough : (nodes : List BranchNode) (depth n : ℕ) → AreNodes nodes → n < length nodes → length nodes ≤ depth + n → records_at depth nodes n ≡ records_at (suc depth) nodes n
deep_enough nodes zero n are within deep = absurd (omega arith)
deep_enough nodes (suc depth) n are within deep =
    records_at-suc nodes depth n within
    ∙ ap (λ (rest : List TreeNode). record_by (tree_node_at nodes n).prices (tree_node_at nodes n).fate ∷ rest) (below (λ m later inside. deep_enough nodes depth m are inside (omega arith)) (tree_node_at nodes n).fate (are.later n within))
    ∙ sym (records_at-suc nodes (suc depth) n within)
  where
    below : ((m : ℕ) → n < m → m < length nodes → records_at depth nodes m ≡ records_at (suc depth) nodes m) → (fate : Fate) → HasLaterChildren (length nodes) n fate → below_by (records_at depth nodes) fate ≡ below_by (records_at (suc depth) nodes) fate
    below deeper Undone later = refl
    below deeper (ClosedBy found) later = refl
    below deeper (DividedBy d) later = ap₂ (λ (left right : List TreeNode). left ++ right) (deeper d.left_child.0 later.0 later.1) (deeper d.right_child.0 later.2 later.3)

-- a subtree is its node's record and the subtrees of its children
pub subtree_at-step : (nodes : List BranchNode) (n : ℕ) → AreNodes nodes → n < length nodes → subtree_at nodes n ≡ record_by (tree_node_at nodes n).prices (tree_node_at nodes n).fate ∷ below_by (subtree_at nodes) (tree_node_at nodes n).fate
subtree_at-step nodes n are within = deep_enough nodes (length nodes) n are within (omega arith) ∙ records_at-suc nodes (length nodes) n within

-- the records of the subtrees of the nodes that wait, the last one first
abbrev pub waiting_for : List BranchNode → List BranchId → List TreeNode
waiting_for nodes [] = []
waiting_for nodes (id ∷ ids) = waiting_for nodes ids ++ subtree_at nodes id.0

-- one node more that waits has its subtree's records come next
pub waiting_for-push : (nodes : List BranchNode) (ids : List BranchId) (id : BranchId) → waiting_for nodes (ids ++ (id ∷ [])) ≡ subtree_at nodes id.0 ++ waiting_for nodes ids
waiting_for-push nodes [] id = sym (append-nil (subtree_at nodes id.0))
waiting_for-push nodes (first ∷ ids) id = ap (λ (rest : List TreeNode). rest ++ subtree_at nodes first.0) (waiting_for-push nodes ids id) ∙ append_assoc (subtree_at nodes id.0) (waiting_for nodes ids) (subtree_at nodes first.0)

children_wait : (nodes : List BranchNode) (ids : List BranchId) (left right : BranchId) → waiting_for nodes ((ids ++ (right ∷ [])) ++ (left ∷ [])) ≡ (subtree_at nodes left.0 ++ subtree_at nodes right.0) ++ waiting_for nodes ids
children_wait nodes ids left right =
    waiting_for-push nodes (ids ++ (right ∷ [])) left ∙ ap (λ (rest : List TreeNode). subtree_at nodes left.0 ++ rest) (waiting_for-push nodes ids right)
    ∙ sym (append_assoc (subtree_at nodes left.0) (subtree_at nodes right.0) (waiting_for nodes ids))

-- what is to come where a node's children wait
waiting_for-with_children : (nodes : List BranchNode) (ids : List BranchId) (fate : Fate) → waiting_for nodes (with_children ids fate) ≡ below_by (subtree_at nodes) fate ++ waiting_for nodes ids
waiting_for-with_children nodes ids Undone = refl
waiting_for-with_children nodes ids (ClosedBy found) = refl
waiting_for-with_children nodes ids (DividedBy d) = children_wait nodes ids d.left_child d.right_child

-- the last node that waits has its record and its children's subtrees to come first
pub waiting_for-last : (nodes : List BranchNode) (ids : List BranchId) (id : BranchId) → AreNodes nodes → id.0 < length nodes
    → waiting_for nodes (ids ++ (id ∷ [])) ≡ record_by (tree_node_at nodes id.0).prices (tree_node_at nodes id.0).fate ∷ waiting_for nodes (with_children ids (tree_node_at nodes id.0).fate)
waiting_for-last nodes ids id are within =
    waiting_for-push nodes ids id
    ∙ ap (λ (records : List TreeNode). records ++ waiting_for nodes ids) (subtree_at-step nodes id.0 are within)
    ∙ ap (λ (rest : List TreeNode). record_by (tree_node_at nodes id.0).prices (tree_node_at nodes id.0).fate ∷ rest) (sym (waiting_for-with_children nodes ids (tree_node_at nodes id.0).fate))

-- there is a node of this number
abbrev pub IsNumberOf : List BranchNode → BranchId → Type 0
IsNumberOf nodes id = id.0 < length nodes

-- while nodes wait: all are nodes of the tree, and what is written and what is to come make the whole
pub record IsWriting (nodes : List BranchNode) (written : List TreeNode) (ids : List BranchId) : Type 0 where
  pub within : All (IsNumberOf nodes) ids
  pub whole : written ++ waiting_for nodes ids ≡ records_of nodes

-- at first the root waits
pub IsWriting-first : (nodes : List BranchNode) → AreNodes nodes → IsWriting nodes [] (record { 0 = 0 } ∷ [])
IsWriting-first nodes are = record { within = All-cons (IsNumberOf nodes) (record { 0 = 0 }) [] are.some (All-nil (IsNumberOf nodes)); whole = refl }

within-with_children : (nodes : List BranchNode) (ids : List BranchId) (n : ℕ) (fate : Fate) → HasLaterChildren (length nodes) n fate → All (IsNumberOf nodes) ids → All (IsNumberOf nodes) (with_children ids fate)
within-with_children nodes ids n Undone later within = within
within-with_children nodes ids n (ClosedBy found) later within = within
within-with_children nodes ids n (DividedBy d) later within = All-push (IsNumberOf nodes) (ids ++ (d.right_child ∷ [])) d.left_child (All-push (IsNumberOf nodes) ids d.right_child within later.3) later.1

-- the last node's record is written, and its children wait
pub IsWriting-step : (nodes : List BranchNode) (written : List TreeNode) (ids : List BranchId) (id : BranchId) → AreNodes nodes → IsWriting nodes written (ids ++ (id ∷ []))
    → IsWriting nodes (written ++ (record_by (tree_node_at nodes id.0).prices (tree_node_at nodes id.0).fate ∷ [])) (with_children ids (tree_node_at nodes id.0).fate)
IsWriting-step nodes written ids id are writing =
    let both = All-pop (IsNumberOf nodes) (ids ++ (id ∷ [])) ids (Some id) refl writing.within in
    record {
      within = within-with_children nodes ids id.0 (tree_node_at nodes id.0).fate (are.later id.0 both.1) both.0;
      whole = append_assoc written (record_by (tree_node_at nodes id.0).prices (tree_node_at nodes id.0).fate ∷ []) _
          ∙ ap (λ (rest : List TreeNode). written ++ rest) (sym (waiting_for-last nodes ids id are both.1)) ∙ writing.whole;
    }

-- each record that is written is one fewer to come
waiting_for-falls : (nodes : List BranchNode) (ids : List BranchId) (id : BranchId) → AreNodes nodes → id.0 < length nodes → length (waiting_for nodes (with_children ids (tree_node_at nodes id.0).fate)) < length (waiting_for nodes (ids ++ (id ∷ [])))
waiting_for-falls nodes ids id are within = omega (arith, ap (λ (records : List TreeNode). length records) (waiting_for-last nodes ids id are within))

-- the last of the nodes that wait is read, its record is written, and its children wait
module _ (nodes : List BranchNode) (written : List TreeNode) (before ids after : List BranchId) (id : BranchId) (node : BranchNode)
    (are : AreNodes nodes) (writing : IsWriting nodes written before) (popped : before ≡ ids ++ (id ∷ [])) (read : node ≡ get_or nodes id.0 node) (awaited : after ≡ with_children ids node.fate) where
  still : IsWriting nodes written (ids ++ (id ∷ []))
  still = subst (IsWriting nodes written) popped writing

  within : id.0 < length nodes
  within = (All-pop (IsNumberOf nodes) (ids ++ (id ∷ [])) ids (Some id) refl still.within).1

  same_node : node ≡ tree_node_at nodes id.0
  same_node = read ∙ get_or_default nodes id.0 node no_tree_node within

  same_after : with_children ids (tree_node_at nodes id.0).fate ≡ after
  same_after = ap (λ (x : BranchNode). with_children ids x.fate) (sym same_node) ∙ sym awaited

  -- with the last node's record written, what is written and what is to come make the whole
  pub written-next : IsWriting nodes (written ++ (record_by node.prices node.fate ∷ [])) after
  written-next = subst₂ (λ (x : BranchNode) (xs : List BranchId). IsWriting nodes (written ++ (record_by x.prices x.fate ∷ [])) xs) (sym same_node) same_after (IsWriting-step nodes written ids id are still)

  -- with each record written, fewer are to come
  pub written-falls : length (waiting_for nodes after) < length (waiting_for nodes before)
  written-falls = subst₂ (λ (xs ys : List BranchId). length (waiting_for nodes xs) < length (waiting_for nodes ys)) same_after (sym popped) (waiting_for-falls nodes ids id are within)
