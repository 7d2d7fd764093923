use Rattle.demand_worth.proofs.Sets.{worth_at-small}
use Rattle.demand_worth.proofs.laws.small_worth.Goals as goal

pub returns : goal.returns
returns c = worth_at-small
