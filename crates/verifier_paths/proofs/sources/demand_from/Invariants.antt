use Rattle.std.proofs.Common.{ℕ, ◌<◌}
use Rattle.verifier_paths.specs.Sources.{IsFrom}
use Rattle.verifier_paths.proofs.sources.demand_from.Given as goal

-- no demand before this one has the source
abbrev pub invariant-loop-place : goal.invariant-loop-place
invariant-loop-place l = (k : ℕ) → k < l.place → IsFrom l.inst l.source.0 k → ⊥
