use Rattle.cert_format.proofs.OneFault.{one_fault}
use Rattle.cert_format.proofs.laws.one_fault_for_a_text.Goals as goal

pub returns : goal.returns
returns c = one_fault
