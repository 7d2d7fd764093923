use Rattle.std.proofs.Common.{◌≡◌, ◌∷◌, take}
use Rattle.branch_tree.proofs.branch.limits_with.Given as goal

-- the new limit stands before the limits before this place
abbrev pub invariant-loop-held : goal.invariant-loop-held
invariant-loop-held l = l.more.items ≡ l.fn.last ∷ take l.held-index l.limits
