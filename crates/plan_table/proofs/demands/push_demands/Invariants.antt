use Rattle.std.proofs.Common.{◌≡◌, ◌++◌}
use Rattle.plan_table.specs.Tables.{demand_rows}
use Rattle.plan_table.proofs.demands.push_demands.Given as goal

-- the lines of the demands before this one are written
abbrev pub invariant-loop-place : goal.invariant-loop-place
invariant-loop-place l = l.rows.text.items ≡ l.initial.rows.text.items ++ demand_rows l.named.net l.named.parts l.named.design l.place
