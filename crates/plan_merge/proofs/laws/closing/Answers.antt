use Rattle.std.proofs.Common.{[], ◌∷◌, Some}
use Rattle.proof_tree.specs.Regions.{whole}
use Rattle.plan_merge.specs.Walks.{nodes_of}
use Rattle.plan_merge.specs.Closing.{closed}
use Rattle.plan_merge.proofs.Fronts.{each-from_trees, trees-from_each}
use Rattle.plan_merge.proofs.ClosingLaws.{closed-leaf, closed-valid, closed-above}
use Rattle.plan_merge.proofs.laws.closing.Goals as goal

pub returns-clause-leaf : goal.returns-clause-leaf
returns-clause-leaf c = closed-leaf

pub returns-clause-tree : goal.returns-clause-tree
returns-clause-tree c = λ p cuts cost unit xs is_unit low h.
    trees-from_each p cuts (Some cost) (whole p ∷ []) (closed cost unit xs) (closed-valid p cuts cost unit is_unit (whole p ∷ []) xs low (each-from_trees p cuts (Some cost) (whole p ∷ []) (nodes_of xs) h))

pub returns-clause-above : goal.returns-clause-above
returns-clause-above c = λ p cuts cost unit least xs h. closed-above p cuts cost unit least (whole p ∷ []) xs h
