use Rattle.proof_tree.proofs.WholeLaws.{overfull-cannot_carry, whole-not_short, whole-room}
use Rattle.proof_tree.proofs.laws.whole_evidence.Goals as goal

pub returns : goal.returns
returns c = record { overfull = overfull-cannot_carry; whole = whole-not_short; room = whole-room }
