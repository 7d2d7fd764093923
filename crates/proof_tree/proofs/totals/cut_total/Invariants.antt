use Rattle.std.proofs.Common.{◌≡◌, ◌≤◌, ◌*◌, slice_index}
use Rattle.plan_base.specs.declared.limits.TheConstants.{MAX_PRICED_LOAD}
use Rattle.plan_base.specs.Sums.{sum_below}
use Rattle.proof_tree.specs.Cuts.{least_count, cut_at}
use Rattle.proof_tree.proofs.totals.cut_total.Given as goal

-- those of the cuts before this one are added, each of them small
abbrev pub invariant-loop-number : goal.invariant-loop-number
invariant-loop-number l = (l.total ≡ sum_below (λ i. slice_index l.rates i * least_count l.inst (cut_at l.cuts i)) l.number) × (l.total ≤ l.number * MAX_PRICED_LOAD)
