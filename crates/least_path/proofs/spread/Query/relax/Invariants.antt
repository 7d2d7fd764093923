use Rattle.std.proofs.Common.{◌≡◌}
use Rattle.least_path.specs.Labels.{IsSpread, open_count}
use Rattle.least_path.specs.Waits.{AllWait}
use Rattle.least_path.proofs.spread.Query.relax.Given as goal

abbrev pub invariant-loop-arc : goal.invariant-loop-arc
invariant-loop-arc g l = record {
  spread : IsSpread l.self.inst.now (g.W.Weigher.weights l.self.weigher.now) l.self.limit l.self.source l.self.target l.labels.items l.here l.arc-items l.arc-index;
  open_same : open_count l.labels.items ≡ open_count l.initial.labels.items;
  waits : AllWait l.labels.items l.queue;
}
