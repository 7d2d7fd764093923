use Rattle.std.proofs.Common.{◌≡◌, ◌++◌}
use Rattle.plan_picture.specs.Pictures.{link_labels}
use Rattle.plan_picture.proofs.picture.push_link_labels.Given as goal

-- the links' names before this place are written
abbrev pub invariant-loop-place : goal.invariant-loop-place
invariant-loop-place l = l.text.items ≡ l.initial.text.items ++ link_labels l.drawing.of.net l.drawing.looks l.place
