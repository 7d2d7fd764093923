use Rattle.column_pool.specs.Columns.{AreColumns}
use Rattle.gate_searches.proofs.masters.columns.add_all.Given as goal

abbrev pub invariant-loop-path : goal.invariant-loop-path
invariant-loop-path l = AreColumns l.inst l.pool
