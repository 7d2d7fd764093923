use Rattle.demand_worth.proofs.Sets.{sets-le}
use Rattle.demand_worth.proofs.laws.sets.Goals as goal

pub returns : goal.returns
returns c = sets-le
