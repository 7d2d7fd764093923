-- Trees that grow out of a valid one: leaves are replaced by whole trees.
use Rattle.std.specs.Prelude.{ℕ, ◌≡◌, ◌⊎◌, ⊤, Bool, true, false, ◌&&◌, List, [], ◌∷◌, ◌++◌, Option, IfSome, IsTrue, ◌≤◌}
use Rattle.plan_base.specs.declared.parts.Parts.{Parts}
use Rattle.proof_tree.specs.declared.cuts.Cut.{Cut}
use Rattle.proof_tree.specs.declared.tree.TreeNode.{TreeNode}
use Rattle.proof_tree.specs.Shapes.{is_leaf}
use Rattle.proof_tree.specs.Plans.{is_open}
use Rattle.proof_tree.specs.Regions.{Region}
use Rattle.proof_tree.specs.Trees.{children_at}
use Rattle.proof_tree.specs.RatedTrees.{AreRatedTrees}
use Rattle.branch_tree.specs.Branches.{region_by}
use Rattle.plan_merge.specs.declared.bounded_record.BoundedRecord.{BoundedRecord}
use Rattle.plan_merge.specs.declared.start.Start.{Start}
use Rattle.plan_merge.specs.Walks.{EachAt}

-- a cost that is there and, if the other is there too, not above it
abbrev pub IsNoDearer : ℕ → Option ℕ → Type 0
IsNoDearer cost old = IfSome old (λ c. cost ≤ c)

-- these records stand in place of the record at this region: itself, or in place of a leaf a whole valid tree
abbrev pub IsReplaced : Parts → List Cut → Option ℕ → Region → TreeNode → List TreeNode → Type 0
IsReplaced p cuts cost g node sub = (sub ≡ node ∷ []) ⊎ (IsTrue (is_leaf node) × AreRatedTrees p cuts cost (g ∷ []) sub)

-- the same of each record
abbrev pub AreReplaced : Parts → List Cut → Option ℕ → List Region → List TreeNode → List (List TreeNode) → Type 0
AreReplaced p cuts cost [] nodes [] = ⊤
AreReplaced p cuts cost [] nodes (sub ∷ subs) = ⊥
AreReplaced p cuts cost (g ∷ gs) [] subs = ⊥
AreReplaced p cuts cost (g ∷ gs) (node ∷ nodes) [] = ⊥
AreReplaced p cuts cost (g ∷ gs) (node ∷ nodes) (sub ∷ subs) = IsReplaced p cuts cost g node sub × AreReplaced p cuts cost (children_at g node ++ gs) nodes subs

-- all these records, one list after the other
abbrev pub joined : List (List TreeNode) → List TreeNode
joined [] = []
joined (sub ∷ subs) = sub ++ joined subs

-- what stands in place of a record: where it is to be replaced the first of these trees, if there is one, else itself
abbrev pub subtree_here : Bool → TreeNode → List (List TreeNode) → List TreeNode
subtree_here true node (sub ∷ subs) = sub
subtree_here true node [] = node ∷ []
subtree_here false node subs = node ∷ []

-- the trees that are left for the records behind it
abbrev pub subtrees_after : Bool → List (List TreeNode) → List (List TreeNode)
subtrees_after true (sub ∷ subs) = subs
subtrees_after true [] = []
subtrees_after false subs = subs

-- the tree with these trees in place of its chosen open leaves
abbrev pub put_in : List BoundedRecord → List Bool → List (List TreeNode) → List TreeNode
put_in [] chosen subs = []
put_in (x ∷ xs) [] subs = []
put_in (x ∷ xs) (one ∷ chosen) subs = subtree_here (is_open x.node && one) x.node subs ++ put_in xs chosen (subtrees_after (is_open x.node && one) subs)

-- each of these trees is one whole tree at the region of its start, and each of its records is so at its region
abbrev pub AreGrown : (Region → TreeNode → Type 0) → Parts → List Start → List (List TreeNode) → Type 0
AreGrown Q p [] subs = ⊤
AreGrown Q p (start ∷ starts) [] = ⊤
AreGrown Q p (start ∷ starts) (sub ∷ subs) = EachAt Q (region_by p start.limits ∷ []) sub × AreGrown Q p starts subs
