use Rattle.std.proofs.Common.{refl}
use Rattle.snd_model.proofs.Written.{readable}
use Rattle.snd_model.proofs.file.ModelFile.well_formed.Goals as goal

pub returns : goal.returns
returns c = (λ _. readable c.args.self.now, λ _. refl)
