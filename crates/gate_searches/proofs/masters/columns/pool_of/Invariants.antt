use Rattle.column_pool.specs.Columns.{AreColumns}
use Rattle.gate_searches.proofs.masters.columns.pool_of.Given as goal

abbrev pub invariant-loop-place : goal.invariant-loop-place
invariant-loop-place l = AreColumns l.inst l.pool
