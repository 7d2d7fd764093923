use Rattle.std.proofs.Common.{ℕ, ◌<◌, length}
use Rattle.column_pool.specs.Columns.{columns_at}
use Rattle.search_worker.proofs.told.has_columns.Given as goal

abbrev pub invariant-loop-place : goal.invariant-loop-place
invariant-loop-place l = (i : ℕ) → i < l.place → 0 < length (columns_at l.columns i)
