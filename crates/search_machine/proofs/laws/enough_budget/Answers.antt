use Rattle.search_machine.proofs.Enough.{budget-enough}
use Rattle.search_machine.proofs.laws.enough_budget.Goals as goal

pub returns : goal.returns
returns c = budget-enough
