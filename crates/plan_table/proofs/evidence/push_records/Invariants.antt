use Rattle.std.proofs.Common.{◌≡◌, ◌++◌}
use Rattle.plan_table.specs.Tables.{record_rows}
use Rattle.plan_table.proofs.evidence.push_records.Given as goal

-- the lines of the records before this one are written
abbrev pub invariant-loop-place : goal.invariant-loop-place
invariant-loop-place l = l.rows.text.items ≡ l.initial.rows.text.items ++ record_rows l.named.net l.named.parts l.named.plan.tree l.place
