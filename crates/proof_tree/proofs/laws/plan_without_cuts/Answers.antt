use Rattle.proof_tree.proofs.CutlessPlans.{evidence-without, plan-without_cuts}
use Rattle.proof_tree.proofs.laws.plan_without_cuts.Goals as goal

pub returns : goal.returns
returns c = record { evidence = evidence-without; plan = plan-without_cuts }
