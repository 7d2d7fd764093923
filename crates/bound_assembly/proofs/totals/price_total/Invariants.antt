use Rattle.std.proofs.Common.{◌≡◌, ◌*◌}
use Rattle.plan_base.specs.Arcs.{demand_at}
use Rattle.plan_base.specs.Sums.{sum_below}
use Rattle.bound_assembly.specs.RoundBounds.{length_of}
use Rattle.bound_assembly.proofs.totals.price_total.Given as goal

abbrev pub invariant-loop-place : goal.invariant-loop-place
invariant-loop-place l = l.total ≡ sum_below (λ k. (demand_at l.inst k).load * length_of l.lengths k) l.place
