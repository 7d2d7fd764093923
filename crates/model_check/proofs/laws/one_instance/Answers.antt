use Rattle.model_check.proofs.Only.{same_parts}
use Rattle.model_check.proofs.laws.one_instance.Goals as goal

pub returns : goal.returns
returns c = same_parts
