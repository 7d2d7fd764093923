use Rattle.verifier_paths.specs.Kept.{forbidden_by}
use Rattle.verifier_paths.specs.OnlyPaths.{ArePathsTo}
use Rattle.verifier_paths.proofs.uniqueness.first_paths.Given as goal

-- each demand before this one has a path
abbrev pub invariant-loop-place : goal.invariant-loop-place
invariant-loop-place l = ArePathsTo l.inst (forbidden_by l.forbidden) l.place l.paths.items
