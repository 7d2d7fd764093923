use Rattle.std.proofs.Common.{arith}
use Rattle.plan_merge.proofs.Forest.{forest-valid}
use Rattle.plan_merge.proofs.laws.forest.Goals as goal

pub returns : goal.returns
returns c = λ p cuts cost nodes starts are of shown. forest-valid p cuts cost nodes starts are of shown starts 0 (omega (arith, are.within))
