use Rattle.std.proofs.Common.{◌≡◌, ◌++◌}
use Rattle.plan_table.specs.Tables.{link_rows}
use Rattle.plan_table.proofs.links.push_links.Given as goal

-- the lines of the links before this one are written
abbrev pub invariant-loop-place : goal.invariant-loop-place
invariant-loop-place l = l.rows.text.items ≡ l.initial.rows.text.items ++ link_rows l.named.net l.named.parts l.named.design l.place
