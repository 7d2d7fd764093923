use Rattle.std.proofs.Common.{◌≡◌, ◌≤◌, length, drop}
use Rattle.arc_restrict.specs.Rows.{forbids, HasSizeOf}
use Rattle.branch_tree.specs.Branches.{restriction_by}
use Rattle.branch_tree.proofs.branch.restriction_by.Given as goal

-- what the limits from this place on forbid
abbrev pub invariant-loop-here : goal.invariant-loop-here
invariant-loop-here l = record {
  within : l.here ≤ length l.limits;
  forbidden : forbids l.restriction ≡ restriction_by (drop l.here l.limits);
  size : HasSizeOf l.inst l.restriction;
}

abbrev pub decreases-loop-here : goal.decreases-loop-here
decreases-loop-here l = l.here
