use Rattle.std.proofs.Common.{◌≡◌, ◌%◌, ◌==◌}
use Rattle.arc_restrict.specs.Rows.{forbids}
use Rattle.branch_tree.specs.Dealing.{further_before, goes_left, goes_right, picked}
use Rattle.branch_tree.proofs.dealing.deal.Given as goal

-- the arcs before this place are dealt, and whose turn it is
abbrev pub invariant-loop-arc : goal.invariant-loop-arc
invariant-loop-arc l = record {
  left : l.sides.left.items ≡ picked (goes_left (forbids l.restriction) l.demand.0 l.one l.other l.arcs) l.arcs l.arc-index;
  right : l.sides.right.items ≡ picked (goes_right (forbids l.restriction) l.demand.0 l.one l.other l.arcs) l.arcs l.arc-index;
  turn : l.sides.is_left_turn ≡ (further_before (forbids l.restriction) l.demand.0 l.one l.other l.arcs l.arc-index % 2 == 0);
}
