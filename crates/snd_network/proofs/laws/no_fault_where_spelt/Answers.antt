use Rattle.snd_network.proofs.Once.{no_fault}
use Rattle.snd_network.proofs.laws.no_fault_where_spelt.Goals as goal

pub returns : goal.returns
returns c = no_fault
