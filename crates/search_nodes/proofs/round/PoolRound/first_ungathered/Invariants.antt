use Rattle.std.proofs.Common.{◌≡◌, None}
use Rattle.plan_base.specs.First.{first_fault, fault_at}
use Rattle.search_machine.specs.Gathering.{ungathered_at}
use Rattle.search_nodes.proofs.round.PoolRound.first_ungathered.Given as goal

abbrev pub invariant-loop-place : goal.invariant-loop-place
invariant-loop-place l = first_fault (fault_at (ungathered_at l.columns) l.self.found) l.place ≡ None
