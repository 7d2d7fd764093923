use Rattle.path_pricing.proofs.ArcPrices.{ArePriced}
use Rattle.path_pricing.proofs.source_tree.arc_prices.Given as goal

abbrev pub invariant-loop-number : goal.invariant-loop-number
invariant-loop-number l = ArePriced l.number l.weights.items
