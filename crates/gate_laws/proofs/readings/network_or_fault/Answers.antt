use Rattle.gate_laws.proofs.EachNetwork.{network_or_fault}
use Rattle.gate_laws.proofs.readings.network_or_fault.Goals as goal

pub returns : goal.returns
returns c = network_or_fault
