use Rattle.std.proofs.Common.{ℕ, ◌<◌}
use Rattle.proof_tree.specs.Cuts.{cut_at, IsCut}
use Rattle.proof_tree.proofs.cuts.are_cuts.Given as goal

-- those before this one are cuts of the instance
abbrev pub invariant-loop-number : goal.invariant-loop-number
invariant-loop-number l = (i : ℕ) → i < l.number → IsCut l.inst (cut_at l.cuts i)
