use Rattle.std.proofs.Common.{◌≡◌, length}
use Rattle.picture_layout.proofs.placing.bent_looks.Given as goal

-- each link before this one has its look
abbrev pub invariant-loop-place : goal.invariant-loop-place
invariant-loop-place l = length l.looks.items ≡ l.place
