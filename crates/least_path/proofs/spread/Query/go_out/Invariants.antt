use Rattle.least_path.specs.Labels.{IsSearch, open_count}
use Rattle.least_path.specs.Waits.{AllWait}
use Rattle.least_path.proofs.spread.Query.go_out.Given as goal

abbrev pub invariant-loop-here : goal.invariant-loop-here
invariant-loop-here g l = record {
  search : IsSearch l.self.inst.now (g.W.Weigher.weights l.self.weigher.now) l.self.limit l.self.source l.self.target l.labels.items;
  waits : AllWait l.labels.items l.queue;
}

abbrev pub decreases-loop-here : goal.decreases-loop-here
decreases-loop-here g l = open_count l.labels.items
