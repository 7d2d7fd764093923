-- The ranges that a walk over the records of a tree has yet to come to. No public clause cites this module.
use Rattle.std.specs.Prelude.{◌<◌, ◌+◌, List, [], ◌∷◌, length, ⊤}
use Rattle.link_steps.specs.declared.range.LoadRange.{LoadRange}
use Rattle.link_steps.specs.Ranges.{range_at, with_range, ends_at, begins_at}
use Rattle.proof_tree.specs.declared.tree.TreeNode.{TreeNode}
use Rattle.proof_tree.specs.declared.tree.TreeNode.TheVariants.{Split, Loads, Leaf}

-- the place whose loads the record splits is one, and has loads above
abbrev pub IsDivisible : List LoadRange → TreeNode → Type 0
IsDivisible ranges (Split demand at left right) = ⊤
IsDivisible ranges (Loads place load) = (place < length ranges) × (load < (range_at ranges place).most)
IsDivisible ranges (Leaf evidence) = ⊤

-- the ranges of the children of a record, those of the left one last
abbrev pub children_last : List LoadRange → TreeNode → List (List LoadRange)
children_last ranges (Split demand at left right) = ranges ∷ ranges ∷ []
children_last ranges (Loads place load) =
    with_range ranges place (begins_at (range_at ranges place) (load + 1)) ∷ with_range ranges place (ends_at (range_at ranges place) load) ∷ []
children_last ranges (Leaf evidence) = []
