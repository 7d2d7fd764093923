use Rattle.std.proofs.Common.{◌≡◌, ◌∷◌, map, take}
use Rattle.std.specs.Arc.{arc_value}
use Rattle.search_nodes.proofs.node.dividing.limits_below.Given as goal

-- the limit, and those before this place
abbrev pub invariant-loop-above : goal.invariant-loop-above
invariant-loop-above l = map arc_value l.all.items ≡ arc_value l.fn.limit ∷ map arc_value (take l.above-index l.limits)
