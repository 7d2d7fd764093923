use Rattle.cert_format.proofs.OneFault.{no_fault}
use Rattle.cert_format.proofs.laws.no_fault_where_spelt.Goals as goal

pub returns : goal.returns
returns c = no_fault
