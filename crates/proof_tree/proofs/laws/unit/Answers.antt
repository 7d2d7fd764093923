use Rattle.proof_tree.proofs.UnitLaws.{cost-multiple}
use Rattle.proof_tree.proofs.laws.unit.Goals as goal

pub returns : goal.returns
returns c = cost-multiple
