use Rattle.verifier_paths.specs.Kept.{AreClear}
use Rattle.verifier_paths.proofs.marks.are_clear.Given as goal

-- no mark before this place is set
abbrev pub invariant-loop-place : goal.invariant-loop-place
invariant-loop-place l = AreClear l.marks l.start l.place
