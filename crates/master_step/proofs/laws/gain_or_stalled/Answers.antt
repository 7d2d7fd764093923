use Rattle.master_step.proofs.Uniqueness.{gain-not_stalled}
use Rattle.master_step.proofs.laws.gain_or_stalled.Goals as goal

pub returns : goal.returns
returns c = gain-not_stalled
