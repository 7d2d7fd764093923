use Rattle.proof_tree.proofs.LimitLaws.{far-valid, one_arc-refused}
use Rattle.proof_tree.proofs.laws.worked_limits.Goals as goal

pub returns : goal.returns
returns c = record { valid = far-valid; refused = one_arc-refused }
