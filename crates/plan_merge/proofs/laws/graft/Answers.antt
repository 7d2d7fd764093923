use Rattle.std.proofs.Common.{[], ◌∷◌}
use Rattle.proof_tree.specs.Regions.{whole}
use Rattle.plan_merge.proofs.Grafting.{grafted}
use Rattle.plan_merge.proofs.laws.graft.Goals as goal

pub returns : goal.returns
returns c = λ p cuts cost records subs h r. grafted p cuts cost (whole p ∷ []) records subs h r
