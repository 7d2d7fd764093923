use Rattle.std.proofs.Common.{◌≡◌, take, replicate, None}
use Rattle.search_nodes.proofs.round.clear.Given as goal

abbrev pub invariant-loop-entry : goal.invariant-loop-entry
invariant-loop-entry l = take l.entry-index l.entry-items ≡ replicate l.entry-index None
