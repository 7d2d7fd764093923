use Rattle.snd_model.proofs.Once.{one_file}
use Rattle.snd_model.proofs.laws.spells_one.Goals as goal

pub returns : goal.returns
returns c = one_file
