use Rattle.std.proofs.Common.{◌≡◌, ◌++◌}
use Rattle.plan_report.specs.Reports.{demand_report}
use Rattle.plan_report.proofs.reports.push_demands.Given as goal

-- the lines of the demands before this one are written
abbrev pub invariant-loop-place : goal.invariant-loop-place
invariant-loop-place l = l.text.items ≡ l.initial.text.items ++ demand_report l.named.net l.named.design l.place
