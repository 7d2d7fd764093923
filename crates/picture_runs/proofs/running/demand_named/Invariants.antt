use Rattle.std.proofs.Common.{ℕ, ◌≢◌, ◌<◌}
use Rattle.plan_report.specs.Reports.{demand_name}
use Rattle.picture_runs.proofs.running.demand_named.Given as goal

-- no demand before this one has the name
abbrev pub invariant-loop-place : goal.invariant-loop-place
invariant-loop-place l = (k : ℕ) → k < l.place → l.name ≢ demand_name l.net k
