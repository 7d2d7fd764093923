use Rattle.gate_laws.proofs.EachModel.{model_or_fault}
use Rattle.gate_laws.proofs.readings.model_or_fault.Goals as goal

pub returns : goal.returns
returns c = model_or_fault
