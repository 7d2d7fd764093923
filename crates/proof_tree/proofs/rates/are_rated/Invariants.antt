use Rattle.std.proofs.Common.{ℕ, ◌<◌, slice_index}
use Rattle.proof_tree.specs.RatedBounds.{IsRatedPrice}
use Rattle.proof_tree.proofs.rates.are_rated.Given as goal

-- the places before this one may have their prices
abbrev pub invariant-loop-place : goal.invariant-loop-place
invariant-loop-place l = (q : ℕ) → q < l.place → IsRatedPrice l.inst l.cuts (slice_index l.prices q) l.rates q
