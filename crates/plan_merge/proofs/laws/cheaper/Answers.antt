use Rattle.std.proofs.Common.{[], ◌∷◌}
use Rattle.proof_tree.specs.Regions.{whole}
use Rattle.plan_merge.proofs.Cheaper.{trees-cheaper}
use Rattle.plan_merge.proofs.laws.cheaper.Goals as goal

pub returns : goal.returns
returns c = λ p cuts old cost records below h. trees-cheaper p cuts old cost below (whole p ∷ []) records h
