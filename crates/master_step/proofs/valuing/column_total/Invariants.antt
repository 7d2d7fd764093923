use Rattle.std.proofs.Common.{◌≡◌, ◌*◌}
use Rattle.plan_base.specs.Sums.{sum_below}
use Rattle.plan_base.specs.Arcs.{demand_at}
use Rattle.master_step.specs.Columns.{least_price}
use Rattle.master_step.specs.Choosing.{allowed_of}
use Rattle.master_step.proofs.valuing.column_total.Given as goal

abbrev pub invariant-loop-place : goal.invariant-loop-place
invariant-loop-place l = l.total ≡ sum_below (λ k. (demand_at l.inst k).load * least_price l.inst l.prices (allowed_of l.source k)) l.place
