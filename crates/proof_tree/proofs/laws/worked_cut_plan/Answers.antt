use Rattle.proof_tree.proofs.CutPlanLaws.{cut_plan-valid, cut_plan-refused}
use Rattle.proof_tree.proofs.laws.worked_cut_plan.Goals as goal

pub returns : goal.returns
returns c = record { valid = cut_plan-valid; refused = cut_plan-refused }
