use Rattle.std.proofs.Common.{arith}
use Rattle.std.proofs.lemmas.List.Sums.{fold_more}
use Rattle.search_view.proofs.view.PoolView.least_bound.Goals as goal

pub loop-node-preserved : goal.loop-node-preserved
loop-node-preserved c = grind (arith, fold_more)
