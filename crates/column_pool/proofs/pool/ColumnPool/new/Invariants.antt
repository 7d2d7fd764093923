use Rattle.std.proofs.Common.{◌≡◌, [], replicate}
use Rattle.column_pool.proofs.pool.ColumnPool.new.Given as goal

abbrev pub invariant-loop-demand : goal.invariant-loop-demand
invariant-loop-demand l = l.rows.items ≡ replicate l._demand []
