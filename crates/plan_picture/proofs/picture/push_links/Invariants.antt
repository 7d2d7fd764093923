use Rattle.std.proofs.Common.{◌≡◌, ◌++◌}
use Rattle.plan_picture.specs.Pictures.{link_marks}
use Rattle.plan_picture.proofs.picture.push_links.Given as goal

-- the marks of the links before this one are written
abbrev pub invariant-loop-place : goal.invariant-loop-place
invariant-loop-place l = l.text.items ≡ l.initial.text.items ++ link_marks l.drawing.of.net l.drawing.of.parts l.drawing.of.plan.design l.drawing.of.demand l.drawing.looks l.place
