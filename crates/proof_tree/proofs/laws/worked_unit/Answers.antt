use Rattle.proof_tree.proofs.OneLinkLaws.{one_link-opening, unit_plan-valid}
use Rattle.proof_tree.proofs.laws.worked_unit.Goals as goal

pub returns : goal.returns
returns c = record { opening = one_link-opening; valid = unit_plan-valid }
