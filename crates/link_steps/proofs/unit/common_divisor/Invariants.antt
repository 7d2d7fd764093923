use Rattle.std.proofs.Common.{ℕ, ◌≤◌, max}
use Rattle.link_steps.specs.Divisors.{IsCommonDivisor}
use Rattle.link_steps.proofs.unit.common_divisor.Given as goal

abbrev pub invariant-loop-smaller : goal.invariant-loop-smaller
invariant-loop-smaller l = record {
  same : (divisor : ℕ) → IsCommonDivisor l.larger l.smaller divisor → IsCommonDivisor l.a l.b divisor;
  within : max l.larger l.smaller ≤ max l.a l.b;
}

abbrev pub decreases-loop-smaller : goal.decreases-loop-smaller
decreases-loop-smaller l = l.smaller
