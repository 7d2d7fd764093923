use Rattle.std.proofs.Common.{ℕ, ◌<◌}
use Rattle.verifier_paths.specs.Kept.{forbidden_by}
use Rattle.verifier_paths.proofs.LeftOut.{HasNoneWithout}
use Rattle.verifier_paths.proofs.uniqueness.has_second.Given as goal

-- no path leaves out one of the arcs before this one
abbrev pub invariant-loop-arc : goal.invariant-loop-arc
invariant-loop-arc l = (i : ℕ) → i < l.arc-index → HasNoneWithout l.inst (forbidden_by l.forbidden) l.demand.0 l.path i
