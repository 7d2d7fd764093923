use Rattle.std.proofs.lemmas.Slice.Eq.{slice_eq-Decides}
use Rattle.verifier_paths.proofs.Rounding.{label-Decides}
use Rattle.verifier_paths.proofs.rounds.are_same.Goals as goal

pub returns : goal.returns
returns c = (slice_eq-Decides label-Decides c.args.one.now c.args.other.now c.eq.result c.eq.ensures).0
