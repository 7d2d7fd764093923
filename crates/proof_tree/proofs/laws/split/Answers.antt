use Rattle.proof_tree.proofs.RangeLaws.{in_one_range, not_in_both}
use Rattle.proof_tree.proofs.laws.split.Goals as goal

pub returns : goal.returns
returns c = record { some = in_one_range; one = not_in_both }
