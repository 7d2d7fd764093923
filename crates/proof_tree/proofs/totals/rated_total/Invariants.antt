use Rattle.proof_tree.specs.RatedBounds.{IsRatedTotal}
use Rattle.proof_tree.proofs.totals.rated_total.Given as goal

-- the values of the links before this one have this sum
abbrev pub invariant-loop-place : goal.invariant-loop-place
invariant-loop-place l = IsRatedTotal l.numbers.table.now l.numbers.cuts.now l.numbers.ranges.now l.numbers.prices.now l.numbers.rates.now l.place l.total
