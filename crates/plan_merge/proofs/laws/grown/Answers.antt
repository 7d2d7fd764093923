use Rattle.std.proofs.Common.{[], ◌∷◌}
use Rattle.proof_tree.specs.Regions.{whole}
use Rattle.proof_tree.specs.RatedTrees.{IsRatedRecord}
use Rattle.plan_merge.specs.Walks.{nodes_of, IsAbove}
use Rattle.plan_merge.specs.Growing.{put_in}
use Rattle.plan_merge.proofs.Fronts.{each-from_trees, trees-from_each}
use Rattle.plan_merge.proofs.StartLaws.{grown-each}
use Rattle.plan_merge.proofs.laws.grown.Goals as goal

pub returns-clause-valid : goal.returns-clause-valid
returns-clause-valid c = λ p cuts cost xs chosen subs same h k.
    trees-from_each p cuts cost (whole p ∷ []) (put_in xs chosen subs) (grown-each (IsRatedRecord p cuts cost) p ([] ∷ []) xs chosen subs same (each-from_trees p cuts cost (whole p ∷ []) (nodes_of xs) h) k)

pub returns-clause-above : goal.returns-clause-above
returns-clause-above c = λ p cuts least xs chosen subs same h k. grown-each (IsAbove p cuts least) p ([] ∷ []) xs chosen subs same h k
