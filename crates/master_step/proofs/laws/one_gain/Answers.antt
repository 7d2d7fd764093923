use Rattle.master_step.proofs.Uniqueness.{gain-unique}
use Rattle.master_step.proofs.laws.one_gain.Goals as goal

pub returns : goal.returns
returns c = gain-unique
