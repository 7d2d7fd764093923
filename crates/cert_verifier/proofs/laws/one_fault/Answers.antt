use Rattle.cert_verifier.proofs.PlanLaws.{one_found}
use Rattle.cert_verifier.proofs.laws.one_fault.Goals as goal

pub returns : goal.returns
returns c = one_found
