use Rattle.gate_laws.proofs.EachPlan.{plan_or_fault}
use Rattle.gate_laws.proofs.readings.plan_or_fault.Goals as goal

pub returns : goal.returns
returns c = plan_or_fault
