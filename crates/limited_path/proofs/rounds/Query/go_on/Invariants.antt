use Rattle.limited_path.specs.Labels.{IsSpread, label_at}
use Rattle.std.specs.Prelude.{◌≡◌, vec_capacity}
use Rattle.limited_path.proofs.rounds.Query.go_on.Given as goal

abbrev pub invariant-loop-arc : goal.invariant-loop-arc
invariant-loop-arc l = record {
  spread : IsSpread l.self.inst.now l.self.weights.now l.self.source l.ways.labels.items l.ways.latest.items l.round.start l.round.steps l.place l.arc-items l.arc-index;
  label_memory : vec_capacity l.ways.labels ≡ vec_capacity l.fn.ways.labels;
  node_memory : vec_capacity l.ways.latest ≡ vec_capacity l.fn.ways.latest;
  label_is : label_at l.ways.labels.items l.place ≡ l.here;
}
