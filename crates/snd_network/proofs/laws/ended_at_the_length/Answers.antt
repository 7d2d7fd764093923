use Rattle.snd_network.proofs.Lengths.{ended_at}
use Rattle.snd_network.proofs.laws.ended_at_the_length.Goals as goal

pub returns : goal.returns
returns c = ended_at
