use Rattle.column_pool.proofs.AddedColumns.{is_column-added}
use Rattle.column_pool.proofs.laws.added_is_column.Goals as goal

pub returns : goal.returns
returns c = is_column-added
