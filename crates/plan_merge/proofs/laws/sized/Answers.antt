use Rattle.plan_merge.proofs.StartLaws.{starts-sized}
use Rattle.plan_merge.proofs.laws.sized.Goals as goal

pub returns : goal.returns
returns c = starts-sized
