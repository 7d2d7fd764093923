use Rattle.std.proofs.Common.{◌≤◌}
use Rattle.plan_base.specs.Arcs.{link_at}
use Rattle.plan_base.specs.declared.limits.TheConstants.{CAPACITY_BOUND}
use Rattle.link_steps.specs.Divisors.{IsDivisorBefore}
use Rattle.link_steps.proofs.unit.routing_divisor.Given as goal

abbrev pub invariant-loop-place : goal.invariant-loop-place
invariant-loop-place l = record {
  divisor : IsDivisorBefore (λ e. (link_at l.inst e).routing) l.place l.divisor;
  within : l.divisor ≤ CAPACITY_BOUND;
}
