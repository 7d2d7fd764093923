-- Records in preorder, each at the region where it stands.
use Rattle.std.specs.Prelude.{ℕ, ◌≡◌, ⊤, List, [], ◌∷◌, ◌++◌, MatchOption, Option, None, ℤ, ◌≤ℤ◌}
use Rattle.plan_base.specs.declared.parts.Parts.{Parts}
use Rattle.proof_tree.specs.declared.cuts.Cut.{Cut}
use Rattle.proof_tree.specs.declared.tree.Evidence.TheVariants.{Open}
use Rattle.proof_tree.specs.declared.tree.TreeNode.{TreeNode}
use Rattle.proof_tree.specs.declared.tree.TreeNode.TheVariants.{Split, Loads, Leaf}
use Rattle.proof_tree.specs.Regions.{Region}
use Rattle.proof_tree.specs.Trees.{children_at}
use Rattle.proof_tree.specs.Plans.{IsOpenBound}
use Rattle.plan_merge.specs.declared.bounded_record.BoundedRecord.{BoundedRecord}

-- the records without the bounds beside them
abbrev pub nodes_of : List BoundedRecord → List TreeNode
nodes_of [] = []
nodes_of (x ∷ xs) = x.node ∷ nodes_of xs

-- the numbers of an open leaf's record
abbrev pub numbers_of : TreeNode → List ℕ
numbers_of (Leaf (Open numbers)) = numbers
numbers_of _ = []

-- one whole tree for each region, and each record is so at its region
abbrev pub EachAt : (Region → TreeNode → Type 0) → List Region → List TreeNode → Type 0
EachAt Q [] [] = ⊤
EachAt Q [] (node ∷ nodes) = ⊥
EachAt Q (g ∷ gs) [] = ⊥
EachAt Q (g ∷ gs) (node ∷ nodes) = Q g node × EachAt Q (children_at g node ++ gs) nodes

-- the same of records with bounds beside them
abbrev pub EachBoundedAt : (Region → BoundedRecord → Type 0) → List Region → List BoundedRecord → Type 0
EachBoundedAt Q [] [] = ⊤
EachBoundedAt Q [] (x ∷ xs) = ⊥
EachBoundedAt Q (g ∷ gs) [] = ⊥
EachBoundedAt Q (g ∷ gs) (x ∷ xs) = Q g x × EachBoundedAt Q (children_at g x.node ++ gs) xs

-- what stands beside the record is its bound as an open leaf of this region, or none where it is none or has none
abbrev pub IsBoundBeside : Parts → List Cut → Region → Option ℤ → TreeNode → Type 0
IsBoundBeside p cuts g beside (Leaf evidence) = MatchOption beside ((bound : ℤ) → IsOpenBound p cuts g evidence bound → ⊥) (λ bound. IsOpenBound p cuts g evidence bound)
IsBoundBeside p cuts g beside (Split id at left right) = beside ≡ None
IsBoundBeside p cuts g beside (Loads place load) = beside ≡ None

-- beside the records of trees that stand at these regions stand the bounds of their open leaves
abbrev pub HaveTheirBounds : Parts → List Cut → List Region → List BoundedRecord → Type 0
HaveTheirBounds p cuts gs xs = EachBoundedAt (λ g x. IsBoundBeside p cuts g x.bound x.node) gs xs

-- the bound of an open leaf is at least this one
abbrev pub IsAbove : Parts → List Cut → ℤ → Region → TreeNode → Type 0
IsAbove p cuts least g (Leaf evidence) = (bound : ℤ) → IsOpenBound p cuts g evidence bound → least ≤ℤ bound
IsAbove p cuts least g (Split id at left right) = ⊤
IsAbove p cuts least g (Loads place load) = ⊤

-- the same of each open leaf of trees that stand at these regions
abbrev pub AreAbove : Parts → List Cut → ℤ → List Region → List TreeNode → Type 0
AreAbove p cuts least gs nodes = EachAt (IsAbove p cuts least) gs nodes
