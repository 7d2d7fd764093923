use Rattle.std.proofs.Common.{◌≡◌, ◌-◌}
use Rattle.cert_format.specs.Bodies.{flags_of}
use Rattle.plan_tokens.proofs.NumberWords.{with_front}
use Rattle.cert_format.proofs.node_sets.flags.Given as goal

abbrev pub invariant-loop-node : goal.invariant-loop-node
invariant-loop-node l = with_front l.flags.items (flags_of l.node (l.nodes - l.node) l.rest) ≡ flags_of 0 l.nodes l.numbers
