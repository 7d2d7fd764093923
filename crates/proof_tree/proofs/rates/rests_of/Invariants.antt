use Rattle.std.proofs.Common.{◌≡◌, ℕ, ◌<◌, length, slice_index}
use Rattle.proof_tree.specs.Cuts.{cut_at, rest_of}
use Rattle.proof_tree.proofs.rates.rests_of.Given as goal

-- the rests of the cuts before this one
abbrev pub invariant-loop-number : goal.invariant-loop-number
invariant-loop-number l = (length l.rests.items ≡ l.number) × ((i : ℕ) → i < l.number → slice_index l.rests.items i ≡ rest_of l.inst (cut_at l.cuts i))
