use Rattle.demand_worth.proofs.Sets.{worth_at-rises}
use Rattle.demand_worth.proofs.laws.never_falls.Goals as goal

pub returns : goal.returns
returns c = worth_at-rises
