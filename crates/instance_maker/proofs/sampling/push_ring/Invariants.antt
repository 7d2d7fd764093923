use Rattle.std.proofs.Common.{◌≡◌, ◌*◌, ◌++◌, map}
use Rattle.std.specs.List.{range_with_len}
use Rattle.instance_maker.specs.Draws.{state_after}
use Rattle.instance_maker.specs.Samples.{ring_link}
use Rattle.instance_maker.proofs.sampling.push_ring.Given as goal

-- the links from the nodes before this one are there, and their draws are done
abbrev pub invariant-loop-place : goal.invariant-loop-place
invariant-loop-place l =
    (l.links.items ≡ l.initial.links.items ++ map (λ i. ring_link l.nodes (state_after l.initial.draws.state (2 * i)) i) (range_with_len 0 l.place))
    × (l.draws.state ≡ state_after l.initial.draws.state (2 * l.place))
