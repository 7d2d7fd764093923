use Rattle.std.proofs.Common.{◌≤◌, ◌-◌}
use Rattle.master_step.proofs.searching.first_not_rising.Given as goal

abbrev pub invariant-loop-low : goal.invariant-loop-low
invariant-loop-low g l = record {
  order : l.low ≤ l.high;
  least : l.least ≤ l.low;
  most : l.high ≤ l.most;
}

abbrev pub decreases-loop-low : goal.decreases-loop-low
decreases-loop-low g l = l.high - l.low
