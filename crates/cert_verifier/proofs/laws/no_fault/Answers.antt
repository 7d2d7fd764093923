use Rattle.cert_verifier.proofs.PlanLaws.{none_is_valid, valid_is_none}
use Rattle.cert_verifier.proofs.laws.no_fault.Goals as goal

pub returns : goal.returns
returns c = λ p plan spelled. (none_is_valid p plan spelled, valid_is_none p plan)
