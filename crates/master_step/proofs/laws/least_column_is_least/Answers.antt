use Rattle.master_step.proofs.LeastColumns.{first_least}
use Rattle.master_step.proofs.laws.least_column_is_least.Goals as goal

pub returns : goal.returns
returns c = first_least
