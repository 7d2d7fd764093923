use Rattle.std.proofs.Common.{◌≡◌, drop}
use Rattle.cert_format.specs.Lists.{gathered, lists_of}
use Rattle.cert_format.proofs.numbering.lists_of.Given as goal

abbrev pub invariant-loop-node : goal.invariant-loop-node
invariant-loop-node l = gathered l.lists (drop l.node-index l.nodes) ≡ lists_of l.nodes
