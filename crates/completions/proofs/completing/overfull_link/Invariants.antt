use Rattle.completions.specs.Completions.{CarryLoads}
use Rattle.completions.proofs.completing.overfull_link.Given as goal

abbrev pub invariant-loop-place : goal.invariant-loop-place
invariant-loop-place l = CarryLoads l.table l.design.paths l.place
