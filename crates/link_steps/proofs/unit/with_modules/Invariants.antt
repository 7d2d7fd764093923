use Rattle.link_steps.proofs.DivisorLaws.{DividesTo}
use Rattle.link_steps.proofs.unit.with_modules.Given as goal

abbrev pub invariant-loop-module : goal.invariant-loop-module
invariant-loop-module l = DividesTo l.link l.module-index l.number l.divisor
