use Rattle.plan_merge.proofs.MergeLaws.{merged-valid}
use Rattle.plan_merge.proofs.laws.merging.Goals as goal

pub returns : goal.returns
returns c = merged-valid
