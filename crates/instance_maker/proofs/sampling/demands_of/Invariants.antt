use Rattle.std.proofs.Common.{◌≡◌, ◌*◌, map}
use Rattle.std.specs.List.{range_with_len}
use Rattle.instance_maker.specs.Draws.{state_after}
use Rattle.instance_maker.specs.Samples.{sample_demand}
use Rattle.instance_maker.proofs.sampling.demands_of.Given as goal

-- the demands before this one are there, and their draws are done
abbrev pub invariant-loop-place : goal.invariant-loop-place
invariant-loop-place l =
    (l.demands.items ≡ map (λ i. sample_demand l.nodes (state_after l.initial.draws.state (3 * i)) i) (range_with_len 0 l.place))
    × (l.draws.state ≡ state_after l.initial.draws.state (3 * l.place))
