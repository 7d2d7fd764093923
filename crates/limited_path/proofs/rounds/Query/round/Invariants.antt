use Rattle.std.specs.Prelude.{◌≡◌, vec_capacity}
use Rattle.limited_path.specs.Labels.{IsRound}
use Rattle.limited_path.proofs.rounds.Query.round.Given as goal

abbrev pub invariant-loop-place : goal.invariant-loop-place
invariant-loop-place l = record {
  rounds : IsRound l.self.inst.now l.self.weights.now l.self.source l.ways.labels.items l.ways.latest.items l.round.start l.round.steps l.place;
  label_memory : vec_capacity l.ways.labels ≡ vec_capacity l.fn.ways.labels;
  node_memory : vec_capacity l.ways.latest ≡ vec_capacity l.fn.ways.latest;
}
