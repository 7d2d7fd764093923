use Rattle.plan_base.proofs.BuildLaws.{IsInstance-build_fault, build_fault-IsInstance}
use Rattle.gate_laws.proofs.instances.built_or_refused.Goals as goal

pub returns : goal.returns
returns c = λ p. (IsInstance-build_fault p, build_fault-IsInstance p)
