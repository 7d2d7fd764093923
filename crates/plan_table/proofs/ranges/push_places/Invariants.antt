use Rattle.std.proofs.Common.{◌≡◌, ◌++◌}
use Rattle.plan_table.specs.Tables.{range_rows}
use Rattle.plan_table.proofs.ranges.push_places.Given as goal

-- the lines of the places before this one are written
abbrev pub invariant-loop-place : goal.invariant-loop-place
invariant-loop-place l = l.text.items ≡ l.initial.text.items ++ range_rows l.at.named.now.net l.at.named.now.parts l.at.index l.at.ranges.now l.place
