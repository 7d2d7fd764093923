use Rattle.std.proofs.Common.{◌≡◌, take}
use Rattle.cert_verifier.specs.PlanRules.{examined_count}
use Rattle.cert_verifier.proofs.claims.examined_count.Given as goal

abbrev pub invariant-loop-node : goal.invariant-loop-node
invariant-loop-node l = l.count ≡ examined_count (take l.node-index l.nodes)
