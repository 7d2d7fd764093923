use Rattle.snd_network.proofs.Once.{one_file}
use Rattle.snd_network.proofs.laws.one_network_for_a_text.Goals as goal

pub returns : goal.returns
returns c = one_file
