use Rattle.std.proofs.Common.{ℕ, ◌<◌, length}
use Rattle.column_pool.specs.Columns.{columns_at}
use Rattle.master_step.proofs.advancing.first_bare.Given as goal

abbrev pub invariant-loop-place : goal.invariant-loop-place
invariant-loop-place l = (i : ℕ) → i < l.place → 0 < length (columns_at l.lists i)
