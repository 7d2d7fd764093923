use Rattle.std.proofs.Common.{None}
use Rattle.cert_verifier.specs.PlanRules.{CutsFind}
use Rattle.cert_verifier.proofs.claims.check_cuts.Given as goal

abbrev pub invariant-loop-number : goal.invariant-loop-number
invariant-loop-number l = CutsFind l.inst l.cuts l.number None
