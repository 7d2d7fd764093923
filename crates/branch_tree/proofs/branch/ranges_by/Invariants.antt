use Rattle.std.proofs.Common.{◌≡◌, ◌≤◌, length, drop}
use Rattle.plan_base.specs.Places.{places}
use Rattle.branch_tree.specs.Branches.{ranges_by}
use Rattle.branch_tree.proofs.branch.ranges_by.Given as goal

-- what the limits from this place on leave
abbrev pub invariant-loop-here : goal.invariant-loop-here
invariant-loop-here l = record {
  within : l.here ≤ length l.limits;
  left : l.ranges ≡ ranges_by l.inst (drop l.here l.limits);
  count : length l.ranges ≡ places l.inst;
}

abbrev pub decreases-loop-here : goal.decreases-loop-here
decreases-loop-here l = l.here
