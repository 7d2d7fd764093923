use Rattle.master_step.proofs.Uniqueness.{trial-unique}
use Rattle.master_step.proofs.laws.one_trial.Goals as goal

pub returns : goal.returns
returns c = trial-unique
