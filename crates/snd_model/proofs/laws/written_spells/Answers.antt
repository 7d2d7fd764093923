use Rattle.snd_model.proofs.Written.{written, written-short}
use Rattle.snd_model.proofs.laws.written_spells.Goals as goal

pub returns-clause-spells : goal.returns-clause-spells
returns-clause-spells c = written

pub returns-clause-short : goal.returns-clause-short
returns-clause-short c = written-short
