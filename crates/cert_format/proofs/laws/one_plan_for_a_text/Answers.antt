use Rattle.std.proofs.Common.{◌≡◌, sym, ◌∙◌}
use Rattle.std.specs.Prelude.{Result, Ok}
use Rattle.proof_tree.specs.declared.plan.Plan.{Plan}
use Rattle.cert_format.specs.declared.fault.PlanFault.{PlanFault}
use Rattle.cert_format.proofs.PlanLaws.{spells_again}
use Rattle.cert_format.proofs.laws.one_plan_for_a_text.Goals as goal

abbrev read : Plan → Result Plan PlanFault
read plan = Ok plan

same : (one other : Plan) → read one ≡ read other → one ≡ other
same one other e = cc

pub returns : goal.returns
returns c = λ text one other s t. same one other (sym (spells_again text one s) ∙ spells_again text other t)
