use Rattle.std.proofs.Common.{◌≡◌, ◌++◌, drop}
use Rattle.search_nodes.specs.Rounds.{paths_of}
use Rattle.search_nodes.proofs.round.PoolRound.paths.Given as goal

abbrev pub invariant-loop-entry : goal.invariant-loop-entry
invariant-loop-entry l = l.paths.items ++ paths_of (drop l.entry-index l.entry-items) ≡ paths_of l.entry-items
