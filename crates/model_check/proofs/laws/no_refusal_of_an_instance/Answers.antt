use Rattle.model_check.proofs.Only.{not_refused}
use Rattle.model_check.proofs.laws.no_refusal_of_an_instance.Goals as goal

pub returns : goal.returns
returns c = not_refused
