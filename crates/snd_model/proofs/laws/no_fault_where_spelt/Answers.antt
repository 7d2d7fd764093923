use Rattle.snd_model.proofs.Once.{no_fault}
use Rattle.snd_model.proofs.laws.no_fault_where_spelt.Goals as goal

pub returns : goal.returns
returns c = no_fault
