use Rattle.demand_worth.proofs.Divisors.{IsDivisorOf}
use Rattle.demand_worth.proofs.measuring.load_divisor.Given as goal

abbrev pub invariant-loop-place : goal.invariant-loop-place
invariant-loop-place l = IsDivisorOf l.inst l.place l.divisor
