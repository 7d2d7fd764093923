use Rattle.std.proofs.Common.{◌≡◌, take}
use Rattle.plan_of_search.proofs.planning.copies_of.Given as goal

-- those before this place are copied
abbrev pub invariant-loop-cut : goal.invariant-loop-cut
invariant-loop-cut l = l.copies.items ≡ take l.cut-index l.cuts
