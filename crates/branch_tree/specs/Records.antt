-- The records of a search tree, in preorder.
use Rattle.std.specs.Prelude.{ℕ, zero, suc, ◌≡◌, ◌<◌, ◌^◌, ⊤, List, [], ◌∷◌, ◌++◌, length, Option, Some, None, slice_get}
use Rattle.proof_tree.specs.declared.tree.Evidence.TheVariants as evidence
use Rattle.proof_tree.specs.declared.tree.TreeNode.{TreeNode}
use Rattle.proof_tree.specs.declared.tree.TreeNode.TheVariants as record_of
use Rattle.branch_tree.specs.declared.node.Limit.{Limit}
use Rattle.branch_tree.specs.declared.node.Divider.{Divider}
use Rattle.branch_tree.specs.declared.node.Divider.TheVariants as divider
use Rattle.branch_tree.specs.declared.node.Fate.{Fate}
use Rattle.branch_tree.specs.declared.node.Fate.TheVariants.{Undone, ClosedBy, DividedBy}
use Rattle.branch_tree.specs.declared.node.BranchNode.{BranchNode}
use Rattle.branch_tree.specs.Branches.{tree_node_at, limits_at, left_limit, right_limit}

-- the nodes of a search tree, in the order of their making
abbrev pub Nodes : Type 0
Nodes = List BranchNode

-- the record of a split
abbrev pub split_record : Divider → TreeNode
split_record (divider.Arcs d) = record_of.Split d.demand d.at d.left d.right
split_record (divider.Load d) = record_of.Loads d.place d.load

-- the record of a node with these prices: an open node is an open leaf with them
abbrev pub record_by : List ℕ → Fate → TreeNode
record_by prices Undone = record_of.Leaf (evidence.Open prices)
record_by prices (ClosedBy found) = record_of.Leaf found
record_by prices (DividedBy d) = split_record d.by

-- the records of both children, the left one first
abbrev pub below_by : (ℕ → List TreeNode) → Fate → List TreeNode
below_by subtree Undone = []
below_by subtree (ClosedBy found) = []
below_by subtree (DividedBy d) = subtree d.left_child.0 ++ subtree d.right_child.0

-- the records of a subtree: its node's own, and then those of the children, which a function tells
abbrev pub preorder_by : (ℕ → List TreeNode) → List ℕ → Fate → List TreeNode
preorder_by subtree prices fate = record_by prices fate ∷ below_by subtree fate

-- the same of a node of any kind, or no records where there is none; two functions tell its prices and its fate
abbrev pub preorder_in : {A : Type 0} → (A → List ℕ) → (A → Fate) → (ℕ → List TreeNode) → Option A → List TreeNode
preorder_in prices_of fate_of subtree None = []
preorder_in prices_of fate_of subtree (Some node) = preorder_by subtree (prices_of node) (fate_of node)

-- the records of the subtree at a number, down to a depth
abbrev pub preorder_at : {A : Type 0} → (A → List ℕ) → (A → Fate) → ℕ → List A → ℕ → List TreeNode
preorder_at prices_of fate_of zero nodes n = []
preorder_at prices_of fate_of (suc depth) nodes n = preorder_in prices_of fate_of (preorder_at prices_of fate_of depth nodes) (slice_get nodes n)

-- the same of a node of a search tree
abbrev pub records_in : (ℕ → List TreeNode) → Option BranchNode → List TreeNode
records_in subtree node = preorder_in (λ x. x.prices) (λ x. x.fate) subtree node

-- the same of a search tree
abbrev pub records_at : ℕ → List BranchNode → ℕ → List TreeNode
records_at depth nodes n = preorder_at (λ x. x.prices) (λ x. x.fate) depth nodes n

-- the records of the tree: no way down it has more nodes than there are
abbrev pub records_of : List BranchNode → List TreeNode
records_of nodes = records_at (length nodes) nodes 0

-- a node's children come after it
abbrev pub HasLaterChildren : ℕ → ℕ → Fate → Type 0
HasLaterChildren count n Undone = ⊤
HasLaterChildren count n (ClosedBy found) = ⊤
HasLaterChildren count n (DividedBy d) = (n < d.left_child.0) × (d.left_child.0 < count) × (n < d.right_child.0) × (d.right_child.0 < count)

-- a node's children have its limits and one more, each that of its side
abbrev pub AreInherited : (ℕ → List Limit) → List Limit → Fate → Type 0
AreInherited limits_of limits Undone = ⊤
AreInherited limits_of limits (ClosedBy found) = ⊤
AreInherited limits_of limits (DividedBy d) = (limits_of d.left_child.0 ≡ left_limit d.by ∷ limits) × (limits_of d.right_child.0 ≡ right_limit d.by ∷ limits)

-- nodes that a search tree may have: the root has no limits, and the children of each split have its limits and their side
pub record AreNodes (nodes : List BranchNode) : Type 0 where
  pub some : 0 < length nodes
  pub few : length nodes < 2 ^ 32
  pub root : limits_at nodes 0 ≡ []
  pub later : (n : ℕ) → n < length nodes → HasLaterChildren (length nodes) n (tree_node_at nodes n).fate
  pub inherited : (n : ℕ) → n < length nodes → AreInherited (limits_at nodes) (limits_at nodes n) (tree_node_at nodes n).fate
