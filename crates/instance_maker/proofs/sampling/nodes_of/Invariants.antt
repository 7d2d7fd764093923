use Rattle.std.proofs.Common.{◌≡◌, map}
use Rattle.std.specs.List.{range_with_len}
use Rattle.instance_maker.specs.Samples.{sample_node}
use Rattle.instance_maker.proofs.sampling.nodes_of.Given as goal

-- the nodes before this one are there
abbrev pub invariant-loop-place : goal.invariant-loop-place
invariant-loop-place l = l.nodes.items ≡ map sample_node (range_with_len 0 l.place)
