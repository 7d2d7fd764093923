use Rattle.std.proofs.Common.{◌≤◌, ◌*◌}
use Rattle.plan_report.specs.Lines.{HaveSteps}
use Rattle.plan_report.proofs.check_lines.steps_in_all.Given as goal

abbrev pub invariant-loop-place : goal.invariant-loop-place
invariant-loop-place l = record {
  have : HaveSteps l.table l.place l.all;
  few : l.all ≤ 4096 * l.place;
}
