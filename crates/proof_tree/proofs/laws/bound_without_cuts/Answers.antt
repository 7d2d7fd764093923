use Rattle.proof_tree.proofs.CutlessBounds.{bound-without_cuts}
use Rattle.proof_tree.proofs.laws.bound_without_cuts.Goals as goal

pub returns : goal.returns
returns c = bound-without_cuts
