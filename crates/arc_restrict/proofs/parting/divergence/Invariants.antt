use Rattle.std.proofs.Common.{◌≡◌, length, take}
use Rattle.arc_restrict.proofs.parting.divergence.Given as goal

abbrev pub invariant-loop-one : goal.invariant-loop-one
invariant-loop-one l = take (length l.yielded) l.first ≡ take (length l.yielded) l.second
