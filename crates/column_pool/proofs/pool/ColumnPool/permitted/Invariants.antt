use Rattle.std.proofs.Common.{◌≡◌, take}
use Rattle.std.specs.Prelude.{filter}
use Rattle.arc_restrict.specs.Rows.{forbids}
use Rattle.column_pool.specs.Columns.{columns_at, is_permitted}
use Rattle.column_pool.proofs.pool.ColumnPool.permitted.Given as goal

abbrev pub invariant-loop-path : goal.invariant-loop-path
invariant-loop-path l = l.paths.items ≡ filter (is_permitted (forbids l.restriction) l.demand.0) (take l.path-index (columns_at l.self l.demand.0))
