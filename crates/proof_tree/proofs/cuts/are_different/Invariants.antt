use Rattle.std.proofs.Common.{ℕ, ◌≢◌, ◌<◌}
use Rattle.proof_tree.specs.Cuts.{cut_at}
use Rattle.proof_tree.proofs.cuts.are_different.Given as goal

-- no two before this one are the same
abbrev pub invariant-loop-number : goal.invariant-loop-number
invariant-loop-number l = (i j : ℕ) → i < j → j < l.number → cut_at l.cuts i ≢ cut_at l.cuts j
