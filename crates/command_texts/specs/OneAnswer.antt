-- What the crates below say of one answer. Only private clauses cite this module.
use Rattle.std.specs.Prelude.{ℕ, ◌≡◌, ◌⊎◌, List, Option}
use Rattle.plan_base.specs.declared.parts.CountLaw.{CountLaw}
use Rattle.plan_base.specs.declared.parts.Link.{Link}
use Rattle.plan_base.specs.declared.parts.Parts.{Parts}
use Rattle.plan_base.specs.Facts.{IsInstance}
use Rattle.snd_reader.specs.declared.fault.TextFault.{TextFault}
use Rattle.snd_reader.specs.declared.fault.TextFault.TheVariants as text_faults
use Rattle.snd_network.specs.declared.file.NetworkFile.{NetworkFile}
use Rattle.snd_network.specs.Spelling.{SpellsNetwork}
use Rattle.snd_network.specs.Spelling.{IsFault as IsNetworkFault}
use Rattle.snd_model.specs.declared.file.ModelFile.{ModelFile}
use Rattle.snd_model.specs.Spelling.{SpellsModel}
use Rattle.snd_model.specs.Spelling.{IsFault as IsModelFault}
use Rattle.model_check.specs.declared.fault.CheckFault.{CheckFault}
use Rattle.model_check.specs.declared.fault.CheckFault.TheVariants as check_faults
use Rattle.model_check.specs.Reading.{ReadsAs}
use Rattle.model_check.specs.Refusals.{IsCheckFault}
use Rattle.proof_tree.specs.declared.plan.Plan.{Plan}
use Rattle.cert_format.specs.Grammar.{SpellsPlan}
use Rattle.cert_format.specs.declared.fault.PlanFault.{PlanFault}
use Rattle.cert_format.specs.declared.fault.PlanFault.TheVariants as plan_faults
use Rattle.cert_format.specs.Faults.{IsFault as IsPlanFault}
use Rattle.cert_verifier.specs.declared.rejected.Rejected.{Rejected}
use Rattle.cert_verifier.specs.PlanRules.{PlanFinds}
use Rattle.link_steps.specs.Costs.{HasAtMostSteps, HasMoreSteps}

-- what the crates below say of texts, files, steps and plans
pub record Below : Type 0 where
  pub one_network : (text : List ℕ) (a b : NetworkFile) → SpellsNetwork text a → SpellsNetwork text b → a ≡ b
  pub spelt_network : (text : List ℕ) (file : NetworkFile) (f : TextFault) → SpellsNetwork text file → IsNetworkFault text f → f ≡ text_faults.OutOfMemory
  pub one_network_fault : (text : List ℕ) (f g : TextFault) → IsNetworkFault text f → IsNetworkFault text g → (f ≡ text_faults.OutOfMemory) ⊎ ((g ≡ text_faults.OutOfMemory) ⊎ (f ≡ g))
  pub one_model : (text : List ℕ) (a b : ModelFile) → SpellsModel text a → SpellsModel text b → a ≡ b
  pub spelt_model : (text : List ℕ) (file : ModelFile) (f : TextFault) → SpellsModel text file → IsModelFault text f → f ≡ text_faults.OutOfMemory
  pub one_model_fault : (text : List ℕ) (f g : TextFault) → IsModelFault text f → IsModelFault text g → (f ≡ text_faults.OutOfMemory) ⊎ ((g ≡ text_faults.OutOfMemory) ⊎ (f ≡ g))
  pub one_instance : (net : NetworkFile) (model : ModelFile) (a b : Parts) → ReadsAs net model a → ReadsAs net model b → a ≡ b
  pub no_refusal : (net : NetworkFile) (model : ModelFile) (parts : Parts) (f : CheckFault) → ReadsAs net model parts → IsInstance parts → IsCheckFault net model f → f ≡ check_faults.OutOfMemory
  pub one_check_fault : (net : NetworkFile) (model : ModelFile) (f g : CheckFault) → IsCheckFault net model f → IsCheckFault net model g → (f ≡ check_faults.OutOfMemory) ⊎ ((g ≡ check_faults.OutOfMemory) ⊎ (f ≡ g))
  pub few_or_many : (law : CountLaw) (l : Link) (total number : ℕ) → HasAtMostSteps law total l number → HasMoreSteps law total l number → ⊥
  pub one_plan : (text : List ℕ) (a b : Plan) → SpellsPlan text a → SpellsPlan text b → a ≡ b
  pub spelt_plan : (text : List ℕ) (plan : Plan) (f : PlanFault) → SpellsPlan text plan → IsPlanFault text f → f ≡ plan_faults.OutOfMemory
  pub one_plan_fault : (text : List ℕ) (f g : PlanFault) → IsPlanFault text f → IsPlanFault text g → (f ≡ plan_faults.OutOfMemory) ⊎ ((g ≡ plan_faults.OutOfMemory) ⊎ (f ≡ g))
  pub one_rejection : (p : Parts) (plan : Plan) (a b : Option Rejected) → PlanFinds p plan a → PlanFinds p plan b → a ≡ b
