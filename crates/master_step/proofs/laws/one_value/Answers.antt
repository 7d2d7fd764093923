use Rattle.master_step.proofs.Uniqueness.{value-unique}
use Rattle.master_step.proofs.laws.one_value.Goals as goal

pub returns : goal.returns
returns c = value-unique
