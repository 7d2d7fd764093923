use Rattle.link_steps.specs.Divisors.{IsModuleDivisor}
use Rattle.link_steps.proofs.unit.module_divisor.Given as goal

abbrev pub invariant-loop-place : goal.invariant-loop-place
invariant-loop-place l = IsModuleDivisor l.inst l.place l.divisor
