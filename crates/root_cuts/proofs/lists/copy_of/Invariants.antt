use Rattle.std.proofs.Common.{◌≡◌, take}
use Rattle.root_cuts.proofs.lists.copy_of.Given as goal

-- the cuts so far are copied
abbrev pub invariant-loop-cut : goal.invariant-loop-cut
invariant-loop-cut l = l.copy.items ≡ take l.cut-index l.cuts
