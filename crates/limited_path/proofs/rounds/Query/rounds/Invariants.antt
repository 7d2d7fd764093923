use Rattle.std.specs.Prelude.{◌≡◌, vec_capacity}
use Rattle.limited_path.specs.Labels.{AreRounds}
use Rattle.limited_path.proofs.rounds.Query.rounds.Given as goal

abbrev pub invariant-loop-done : goal.invariant-loop-done
invariant-loop-done l = record {
  rounds : AreRounds l.self.inst.now l.self.weights.now l.self.source l.ways.labels.items l.ways.latest.items l.from l.done;
  label_memory : vec_capacity l.ways.labels ≡ vec_capacity l.fn.ways.labels;
  node_memory : vec_capacity l.ways.latest ≡ vec_capacity l.fn.ways.latest;
}
