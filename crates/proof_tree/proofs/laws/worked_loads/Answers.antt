use Rattle.proof_tree.proofs.OneLinkLaws.{loads_plan-valid, loads_at_most-refused}
use Rattle.proof_tree.proofs.laws.worked_loads.Goals as goal

pub returns : goal.returns
returns c = record { valid = loads_plan-valid; refused = loads_at_most-refused }
