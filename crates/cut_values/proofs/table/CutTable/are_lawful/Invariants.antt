use Rattle.std.proofs.Common.{ℕ, ◌<◌, slice_index}
use Rattle.proof_tree.specs.RatedBounds.{IsRatedPrice}
use Rattle.cut_values.proofs.table.CutTable.are_lawful.Given as goal

-- the places before this one may have their prices
abbrev pub invariant-loop-place : goal.invariant-loop-place
invariant-loop-place l = (q : ℕ) → q < l.place → IsRatedPrice l.self.problem l.self.cuts (slice_index l.prices q) l.rates q
