use Rattle.std.proofs.Common.{◌≡◌, ◌++◌}
use Rattle.plan_picture.specs.Pictures.{all_figures}
use Rattle.plan_picture.proofs.picture.push_all_figures.Given as goal

-- the figures of the links before this place are written
abbrev pub invariant-loop-place : goal.invariant-loop-place
invariant-loop-place l = l.text.items ≡ l.initial.text.items ++ all_figures l.drawing.of.parts l.drawing.of.plan.design l.drawing.of.demand l.drawing.looks l.place
