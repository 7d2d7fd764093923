use Rattle.std.proofs.Common.{◌≡◌, ◌++◌}
use Rattle.plan_table.specs.Tables.{reached_words}
use Rattle.plan_table.proofs.evidence.push_reached.Given as goal

-- the names of the nodes before this one are written
abbrev pub invariant-loop-place : goal.invariant-loop-place
invariant-loop-place l = l.words.items ≡ l.initial.words.items ++ reached_words l.named.net l.reached l.place
