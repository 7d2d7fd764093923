use Rattle.proof_tree.proofs.CutLaws.{cut-holds}
use Rattle.proof_tree.proofs.laws.cut.Goals as goal

pub returns : goal.returns
returns c = λ p cut d is simple. cut-holds p cut d is.is_tally simple
