use Rattle.demand_worth.proofs.Divisors.{few-measures}
use Rattle.demand_worth.proofs.laws.few_measures.Goals as goal

pub returns-clause-few : goal.returns-clause-few
returns-clause-few c = few-measures
