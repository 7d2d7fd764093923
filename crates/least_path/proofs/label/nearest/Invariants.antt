use Rattle.std.proofs.Common.{MatchOption}
use Rattle.least_path.specs.Labels.{HasNoOpenBelow, IsNearestBelow}
use Rattle.least_path.proofs.label.nearest.Given as goal

abbrev pub invariant-loop-place : goal.invariant-loop-place
invariant-loop-place l = MatchOption l.found (HasNoOpenBelow l.labels l.place) (λ stop. IsNearestBelow l.labels l.place stop)
