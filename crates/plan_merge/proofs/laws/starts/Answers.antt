use Rattle.std.proofs.Common.{[], ◌∷◌}
use Rattle.proof_tree.specs.Regions.{whole}
use Rattle.plan_merge.specs.Walks.{nodes_of, IsAbove}
use Rattle.plan_merge.proofs.Fronts.{each-from_trees}
use Rattle.plan_merge.proofs.StartLaws.{starts-each, starts-lawful, starts-few, root-lawful}
use Rattle.plan_merge.proofs.laws.starts.Goals as goal

pub returns-clause-above : goal.returns-clause-above
returns-clause-above c = λ p cuts least xs chosen h. starts-each (IsAbove p cuts least) p ([] ∷ []) xs chosen h

pub returns-clause-lawful : goal.returns-clause-lawful
returns-clause-lawful c = λ p cuts cost xs chosen lawful h. starts-lawful p cuts cost lawful.total ([] ∷ []) xs chosen (each-from_trees p cuts cost (whole p ∷ []) (nodes_of xs) h) (root-lawful p, tt)

pub returns-clause-few : goal.returns-clause-few
returns-clause-few c = λ xs chosen. starts-few ([] ∷ []) xs chosen
