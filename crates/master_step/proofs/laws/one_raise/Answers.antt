use Rattle.master_step.proofs.Uniqueness.{raise-trial, raise-value}
use Rattle.master_step.proofs.laws.one_raise.Goals as goal

pub returns : goal.returns
returns c = record { trial = raise-trial; value = raise-value }
