use Rattle.std.proofs.Common.{◌≡◌, ◌++◌}
use Rattle.plan_table.specs.Tables.{priced_words}
use Rattle.plan_table.proofs.evidence.push_priced.Given as goal

-- the names of the links before this one are written
abbrev pub invariant-loop-place : goal.invariant-loop-place
invariant-loop-place l = l.words.items ≡ l.initial.words.items ++ priced_words l.named.net l.named.parts l.prices l.place
