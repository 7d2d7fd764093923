use Rattle.proof_tree.specs.RatedBounds.{IsRatedTotal}
use Rattle.proof_tree.specs.RatedEvidence.{rates_in}
use Rattle.cut_values.proofs.table.CutTable.value_total.Given as goal

-- the values of the links before this one have this sum
abbrev pub invariant-loop-place : goal.invariant-loop-place
invariant-loop-place l = IsRatedTotal l.self.problem l.self.cuts l.ranges l.numbers (rates_in l.self.problem l.numbers) l.place l.total
