use Rattle.std.proofs.Common.{◌*◌, ◌≤◌}
use Rattle.completions.specs.declared.completing.TheConstants.{LINK_COST_BOUND}
use Rattle.completions.specs.Links.{AreCompletedTo}
use Rattle.completions.proofs.completing.complete_links.Given as goal

abbrev pub invariant-loop-place : goal.invariant-loop-place
invariant-loop-place l = record {
  done : AreCompletedTo l.table l.design.paths l.place l.cost l.all.items;
  within : l.cost ≤ l.place * LINK_COST_BOUND;
}
