use Rattle.std.proofs.Common.{take}
use Rattle.cert_verifier.specs.SplitRules.{Leave}
use Rattle.cert_verifier.proofs.splits.leave.Given as goal

abbrev pub invariant-loop-arc : goal.invariant-loop-arc
invariant-loop-arc l = Leave l.inst l.node (take l.arc-index l.arcs)
