use Rattle.verifier_paths.specs.Kept.{forbidden_by}
use Rattle.verifier_paths.specs.OnlyPaths.{AreOnlyTo}
use Rattle.verifier_paths.proofs.uniqueness.any_second.Given as goal

-- no demand before this one has a second path
abbrev pub invariant-loop-place : goal.invariant-loop-place
invariant-loop-place l = AreOnlyTo l.inst (forbidden_by l.forbidden) l.place l.fn.paths
