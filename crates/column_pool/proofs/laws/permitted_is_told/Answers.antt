use Rattle.column_pool.proofs.AddedColumns.{IsPermitted-told, told-IsPermitted}
use Rattle.column_pool.proofs.laws.permitted_is_told.Goals as goal

pub returns : goal.returns
returns c = λ r k path. (IsPermitted-told r k path, told-IsPermitted r k path)
