use Rattle.std.proofs.Common.{◌≡◌, ◌++◌}
use Rattle.plan_report.specs.Reports.{link_report}
use Rattle.plan_report.proofs.reports.push_links.Given as goal

-- the lines of the links before this one are written
abbrev pub invariant-loop-place : goal.invariant-loop-place
invariant-loop-place l = l.text.items ≡ l.initial.text.items ++ link_report l.named.net l.named.parts l.named.design l.place
