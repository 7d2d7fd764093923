use Rattle.model_check.proofs.Only.{same_refusal}
use Rattle.model_check.proofs.laws.one_refusal.Goals as goal

pub returns : goal.returns
returns c = same_refusal
