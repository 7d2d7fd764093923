use Rattle.std.proofs.Common.{◌≡◌, ◌++◌, take}
use Rattle.plan_report.specs.Reports.{way_text}
use Rattle.plan_report.proofs.reports.push_way.Given as goal

-- the names of the links before this arc are written
abbrev pub invariant-loop-arc : goal.invariant-loop-arc
invariant-loop-arc l = l.text.items ≡ l.initial.text.items ++ way_text l.net (take l.arc-index l.arcs)
