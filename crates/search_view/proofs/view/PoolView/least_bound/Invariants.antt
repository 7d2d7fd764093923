use Rattle.std.proofs.Common.{◌≡◌, take}
use Rattle.search_view.specs.OpenBounds.{least_bound_of}
use Rattle.search_view.proofs.view.PoolView.least_bound.Given as goal

-- the least bound among the nodes before this one
abbrev pub invariant-loop-node : goal.invariant-loop-node
invariant-loop-node l = l.least ≡ least_bound_of l.self.nodes (take l.node-index l.nodes)
