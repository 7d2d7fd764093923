use Rattle.least_path.specs.Labels.{IsSearch, open_count}
use Rattle.least_path.proofs.spread.Query.go_out_slow.Given as goal

abbrev pub invariant-loop-here : goal.invariant-loop-here
invariant-loop-here g l = IsSearch l.self.inst.now (g.W.Weigher.weights l.self.weigher.now) l.self.limit l.self.source l.self.target l.labels.items

abbrev pub decreases-loop-here : goal.decreases-loop-here
decreases-loop-here g l = open_count l.labels.items
