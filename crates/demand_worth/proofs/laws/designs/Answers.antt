use Rattle.demand_worth.proofs.Sets.{designs-le}
use Rattle.demand_worth.proofs.laws.designs.Goals as goal

pub returns : goal.returns
returns c = designs-le
