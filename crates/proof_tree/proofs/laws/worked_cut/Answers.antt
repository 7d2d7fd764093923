use Rattle.std.proofs.Common.{refl}
use Rattle.proof_tree.proofs.WorkedCutLaws.{around_a-cut, parallel-counted, parallel-none}
use Rattle.proof_tree.proofs.laws.worked_cut.Goals as goal

pub returns : goal.returns
returns c = record { cut = around_a-cut; rest = refl; least = refl; counted = parallel-counted; no_rest = refl; no_least = refl; none = parallel-none }
