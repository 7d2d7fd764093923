use Rattle.std.proofs.Common.{◌≡◌, ◌++◌}
use Rattle.plan_picture.specs.Pictures.{node_marks}
use Rattle.plan_picture.proofs.picture.push_nodes.Given as goal

-- the nodes before this one are written
abbrev pub invariant-loop-node : goal.invariant-loop-node
invariant-loop-node l = l.text.items ≡ l.initial.text.items ++ node_marks l.drawing.of.net l.drawing.of.parts l.drawing.of.demand l.drawing.looks l.node
