use Rattle.std.proofs.Common.{◌≡◌, true, IfSome}
use Rattle.search_view.specs.Work.{is_next}
use Rattle.search_view.proofs.view.PoolView.first_leaf.Given as goal

abbrev pub invariant-loop-node : goal.invariant-loop-node
invariant-loop-node l = IfSome l.first (λ node. is_next l.self node ≡ true)
