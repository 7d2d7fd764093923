use Rattle.plan_table.proofs.Raised.{rounded_up-le}
use Rattle.plan_table.proofs.laws.raised_bound.Goals as goal

pub returns : goal.returns
returns c = rounded_up-le
