use Rattle.std.proofs.Common.{◌≡◌}
use Rattle.search_machine.specs.Gathering.{gathered}
use Rattle.search_nodes.proofs.round.PoolRound.add_to.Given as goal

abbrev pub invariant-loop-place : goal.invariant-loop-place
invariant-loop-place l = l.columns ≡ gathered l.initial.columns l.self.found l.place
