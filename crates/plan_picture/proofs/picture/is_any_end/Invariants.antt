use Rattle.std.proofs.Common.{◌≡◌, false}
use Rattle.plan_picture.specs.Pictures.{any_ends_at}
use Rattle.plan_picture.proofs.picture.is_any_end.Given as goal

-- no demand before this one ends at the node
abbrev pub invariant-loop-place : goal.invariant-loop-place
invariant-loop-place l = any_ends_at l.inst l.node l.place ≡ false
