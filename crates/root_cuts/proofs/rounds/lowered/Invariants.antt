use Rattle.std.proofs.Common.{◌≡◌, length}
use Rattle.root_cuts.proofs.rounds.lowered.Given as goal

-- there are as many prices as before
abbrev pub invariant-loop-place : goal.invariant-loop-place
invariant-loop-place l = length l.lower ≡ length l.numbers
