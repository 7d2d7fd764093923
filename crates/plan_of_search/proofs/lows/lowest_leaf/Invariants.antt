use Rattle.std.proofs.Common.{◌<◌, length}
use Rattle.plan_of_search.proofs.lows.lowest_leaf.Given as goal

-- the leaf that is chosen is one of the nodes
abbrev pub invariant-loop-number : goal.invariant-loop-number
invariant-loop-number l = l.lowest < length l.state.nodes.items
