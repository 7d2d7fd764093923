use Rattle.std.specs.Prelude.{◌≡◌, vec_capacity}
use Rattle.limited_path.specs.Labels.{label_at}
use Rattle.limited_path.proofs.WayLaws.{IsReadBack}
use Rattle.limited_path.proofs.rounds.Query.read_way.Given as goal

abbrev pub invariant-loop-here : goal.invariant-loop-here
invariant-loop-here l = record {
  read : IsReadBack l.ways.labels.items (label_at l.ways.labels.items l.place) l.here l.arcs.items;
  memory : vec_capacity l.arcs ≡ vec_capacity l.fn.arcs;
}

abbrev pub decreases-loop-here : goal.decreases-loop-here
decreases-loop-here l = l.here.steps
