use Rattle.std.proofs.Common.{IfSome}
use Rattle.search_machine.specs.Tasks.{IsLawfulTask}
use Rattle.search_view.proofs.view.PoolView.first_unclaimed.Given as goal

abbrev pub invariant-loop-node : goal.invariant-loop-node
invariant-loop-node l = IfSome l.first (λ held. IsLawfulTask l.self held.1)
