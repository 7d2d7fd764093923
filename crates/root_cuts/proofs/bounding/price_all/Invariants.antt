use Rattle.std.proofs.Common.{◌≡◌, length}
use Rattle.root_cuts.proofs.bounding.price_all.Given as goal

-- each demand has its list
abbrev pub invariant-loop-place : goal.invariant-loop-place
invariant-loop-place l = length l.columns ≡ length l.ground.inst.now.demands
