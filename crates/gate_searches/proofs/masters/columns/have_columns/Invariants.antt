use Rattle.std.proofs.Common.{ℕ, ◌<◌, length}
use Rattle.arc_restrict.specs.Rows.{forbids}
use Rattle.column_pool.specs.Columns.{permitted_at}
use Rattle.gate_searches.proofs.masters.columns.have_columns.Given as goal

abbrev pub invariant-loop-place : goal.invariant-loop-place
invariant-loop-place l = (k : ℕ) → k < l.place → 0 < length (permitted_at (forbids l.restriction) l.pool k)
