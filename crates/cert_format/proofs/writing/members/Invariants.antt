use Rattle.std.proofs.Common.{◌≡◌, ◌++◌, drop}
use Rattle.cert_format.specs.Grammar.{members}
use Rattle.cert_format.proofs.writing.members.Given as goal

abbrev pub invariant-loop-node : goal.invariant-loop-node
invariant-loop-node l = l.nodes.items ++ members l.node (drop l.node l.set) ≡ members 0 l.set
