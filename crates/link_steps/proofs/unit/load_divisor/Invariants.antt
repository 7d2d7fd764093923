use Rattle.std.proofs.Common.{◌≤◌}
use Rattle.plan_base.specs.Arcs.{demand_at}
use Rattle.plan_base.specs.declared.limits.TheConstants.{MAX_TOTAL_LOAD}
use Rattle.link_steps.specs.Divisors.{IsDivisorBefore}
use Rattle.link_steps.proofs.unit.load_divisor.Given as goal

abbrev pub invariant-loop-place : goal.invariant-loop-place
invariant-loop-place l = record {
  divisor : IsDivisorBefore (λ k. (demand_at l.inst k).load) l.place l.divisor;
  within : l.divisor ≤ MAX_TOTAL_LOAD;
}
