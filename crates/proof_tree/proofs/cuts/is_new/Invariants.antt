use Rattle.std.proofs.Common.{ℕ, ◌≢◌, ◌<◌}
use Rattle.proof_tree.specs.Cuts.{cut_at}
use Rattle.proof_tree.proofs.cuts.is_new.Given as goal

-- none before this one is the same
abbrev pub invariant-loop-earlier : goal.invariant-loop-earlier
invariant-loop-earlier l = (i : ℕ) → i < l.earlier → cut_at l.cuts i ≢ cut_at l.cuts l.number
