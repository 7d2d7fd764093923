use Rattle.std.proofs.Common.{◌≡◌, ◌<◌, false}
use Rattle.plan_base.specs.declared.ids.ArcId.{ArcId}
use Rattle.verifier_paths.specs.Kept.{forbidden_by}
use Rattle.cert_verifier.specs.Leaving.{leads_out}
use Rattle.cert_verifier.proofs.leaves.is_closed.Given as goal

abbrev pub invariant-loop-arc : goal.invariant-loop-arc
invariant-loop-arc l = (a : ArcId) → a.0 < l.arc → leads_out l.at.inst.now (forbidden_by l.at.forbidden.now) l.demand l.reached a ≡ false
