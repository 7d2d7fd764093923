use Rattle.std.specs.Prelude.{◌≡◌, ◌≤◌, ◌-◌, None, length, replicate, vec_capacity}
use Rattle.limited_path.proofs.ways.set_unreached.Given as goal

abbrev pub invariant-loop-latest : goal.invariant-loop-latest
invariant-loop-latest l = record {
  within : length l.latest.items ≤ l.nodes;
  unreached : l.latest.items ≡ replicate (length l.latest.items) None;
  memory : vec_capacity l.latest ≡ vec_capacity l.fn.latest;
}

abbrev pub decreases-loop-latest : goal.decreases-loop-latest
decreases-loop-latest l = l.nodes - length l.latest.items
