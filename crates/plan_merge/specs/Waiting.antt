-- Limits of records in preorder, kept as one path. No public clause cites this module.
use Rattle.std.specs.Prelude.{ℕ, ◌≡◌, ◌≤◌, ⊤, List, [], ◌∷◌, ◌++◌, take, reverse}
use Rattle.proof_tree.specs.declared.tree.TreeNode.{TreeNode}
use Rattle.proof_tree.specs.declared.tree.TreeNode.TheVariants.{Split, Loads, Leaf}
use Rattle.branch_tree.specs.declared.node.Limit.{Limit}
use Rattle.branch_tree.specs.declared.node.Limit.TheVariants as limit
use Rattle.plan_merge.specs.declared.starting.Waiting.{Waiting}

-- the children of a record with so many limits, the left one first
abbrev pub children_after : ℕ → TreeNode → List Waiting
children_after depth (Leaf found) = []
children_after depth (Split id at left right) = record { depth = depth; last = limit.Arcs id left } ∷ record { depth = depth; last = limit.Arcs id right } ∷ []
children_after depth (Loads place load) = record { depth = depth; last = limit.UpTo place load } ∷ record { depth = depth; last = limit.Above place load } ∷ []

-- the limits of the trees that wait, those of the next one first, where this is the path to the record before
abbrev pub limits_after : List Limit → List Waiting → List (List Limit)
limits_after path [] = []
limits_after path (next ∷ waiting) = (next.last ∷ reverse (take next.depth path)) ∷ limits_after path waiting

-- no tree that waits has more limits in common with the record before than the one that comes before it
abbrev pub AreNested : ℕ → List Waiting → Type 0
AreNested depth [] = ⊤
AreNested depth (next ∷ waiting) = (next.depth ≤ depth) × AreNested next.depth waiting

-- the next tree's path, and what waits behind it
pub record IsNext (path : List Limit) (waiting : List Waiting) (path_after : List Limit) (waiting_after : List Waiting) : Type 0 where
  pub next : Waiting
  pub first : reverse waiting ≡ next ∷ reverse waiting_after
  pub path_is : path_after ≡ take next.depth path ++ next.last ∷ []
