use Rattle.std.proofs.Common.{◌≡◌}
use Rattle.proof_tree.specs.RatedBounds.{rated_before}
use Rattle.proof_tree.proofs.rates.put_rated.Given as goal

-- those of the cuts before this one
abbrev pub invariant-loop-number : goal.invariant-loop-number
invariant-loop-number l = l.list.items ≡ rated_before l.numbers.table.now l.numbers.cuts.now l.numbers.rates.now l.place l.number
