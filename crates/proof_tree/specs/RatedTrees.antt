-- Valid trees with cuts: records in preorder, each subtree with the region where it stands.
use Rattle.std.specs.Prelude.{ℕ, List, [], ◌∷◌, ◌++◌, Option, ⊤}
use Rattle.plan_base.specs.declared.parts.Parts.{Parts}
use Rattle.proof_tree.specs.declared.cuts.Cut.{Cut}
use Rattle.proof_tree.specs.declared.tree.TreeNode.{TreeNode}
use Rattle.proof_tree.specs.declared.tree.TreeNode.TheVariants.{Split, Loads, Leaf}
use Rattle.proof_tree.specs.Regions.{Region, whole, IsLoadSplit}
use Rattle.proof_tree.specs.Splits.{IsSplit}
use Rattle.proof_tree.specs.Trees.{children_at}
use Rattle.proof_tree.specs.RatedEvidence.{HasRatedEvidence}

-- a record at this region is a split of it, or a leaf with its evidence
abbrev pub IsRatedRecord : Parts → List Cut → Option ℕ → Region → TreeNode → Type 0
IsRatedRecord p cuts cost g (Leaf evidence) = HasRatedEvidence p cuts cost g evidence
IsRatedRecord p cuts cost g (Split k at left right) = IsSplit p g.forbidden k at left right
IsRatedRecord p cuts cost g (Loads place load) = IsLoadSplit p g.ranges place load

-- in preorder one whole tree for each region, where each split is one of the region there and each leaf has its evidence
abbrev pub AreRatedTrees : Parts → List Cut → Option ℕ → List Region → List TreeNode → Type 0
AreRatedTrees p cuts cost [] [] = ⊤
AreRatedTrees p cuts cost [] (node ∷ nodes) = ⊥
AreRatedTrees p cuts cost (g ∷ gs) [] = ⊥
AreRatedTrees p cuts cost (g ∷ gs) (node ∷ nodes) = IsRatedRecord p cuts cost g node × AreRatedTrees p cuts cost (children_at g node ++ gs) nodes

-- one whole tree, whose root is the whole region
abbrev pub IsRatedTree : Parts → List Cut → Option ℕ → List TreeNode → Type 0
IsRatedTree p cuts cost nodes = AreRatedTrees p cuts cost (whole p ∷ []) nodes
