-- Open leaves that are closed by their own numbers against a cost.
use Rattle.std.specs.Prelude.{ℕ, Bool, false, ◌&&◌, if◌then◌else◌, List, map, Option, Some, None, ℤ, pos, ◌+ℤ◌, int_lt}
use Rattle.proof_tree.specs.declared.tree.Evidence.TheVariants.{Bound}
use Rattle.proof_tree.specs.declared.tree.TreeNode.{TreeNode}
use Rattle.proof_tree.specs.declared.tree.TreeNode.TheVariants.{Leaf}
use Rattle.proof_tree.specs.Plans.{is_open}
use Rattle.plan_merge.specs.declared.bounded_record.BoundedRecord.{BoundedRecord}
use Rattle.plan_merge.specs.Walks.{numbers_of}

-- there is a bound, and it is above the cost less the unit, in cost grains
abbrev pub is_above : ℕ → ℕ → Option ℤ → Bool
is_above cost unit None = false
is_above cost unit (Some bound) = int_lt (pos cost) (bound +ℤ pos unit)

-- the record, closed by its own numbers where it is an open leaf with such a bound
abbrev pub closed_record : ℕ → ℕ → BoundedRecord → TreeNode
closed_record cost unit x = if is_open x.node && is_above cost unit x.bound then Leaf (Bound (numbers_of x.node)) else x.node

-- the same of all records
abbrev pub closed : ℕ → ℕ → List BoundedRecord → List TreeNode
closed cost unit xs = map (closed_record cost unit) xs
