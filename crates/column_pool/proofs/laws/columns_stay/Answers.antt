use Rattle.column_pool.proofs.AddedColumns.{AreColumns-none, AreColumns-with}
use Rattle.column_pool.proofs.laws.columns_stay.Goals as goal

pub returns : goal.returns
returns c = record { first = AreColumns-none; added = AreColumns-with }
