-- What is written of texts without a search: the line of a check, that of a verdict, the text of a report and that of a plan, and what becomes of an answer.
use Rattle.std.specs.Prelude.{ℕ, ◌≡◌, ◌≢◌, ◌↔◌, ◌<◌, List, [], length, take, Option, Some, Result, Ok, Err, IsSomeAnd}
use Rattle.std.specs.Io.KnownBytes.{Appends}
use Rattle.plan_base.specs.declared.parts.Parts.{Parts}
use Rattle.snd_network.specs.declared.file.NetworkFile.{NetworkFile}
use Rattle.proof_tree.specs.declared.plan.Plan.{Plan}
use Rattle.proof_tree.specs.Plans.{IsValidPlan, HasItsClaim}
use Rattle.cert_format.specs.Grammar.{written_text, SpellsPlan}
use Rattle.cert_verifier.specs.declared.rejected.Rejected.{Rejected as Rejection}
use Rattle.cert_verifier.specs.declared.rejected.Rejected.TheVariants as rejections
use Rattle.cert_verifier.specs.PlanRules.{PlanFinds}
use Rattle.plan_report.specs.Lines.{fault_line, IsCheckLine}
use Rattle.plan_report.specs.Verdicts.{accepted_line, rejected_line}
use Rattle.plan_report.specs.Reports.{report_text}
use Rattle.command_texts.specs.declared.answer.Answer.{Answer}
use Rattle.command_texts.specs.declared.status.Status.{Status}
use Rattle.command_texts.specs.declared.status.Status.TheVariants.{Good, WriteFault, OutOfMemory, Rejected}
use Rattle.command_texts.specs.declared.stop.Stop.{Stop}
use Rattle.command_texts.specs.declared.stop.Stop.TheVariants as stops
use Rattle.command_texts.specs.Refusals.{Reads, SpellsItsPlan, HoldsOfProblem, IsPlanAlone}
use Rattle.command_texts.specs.Statuses.{refusal_status}
use Rattle.command_texts.specs.Texts.{Texts}

-- ---- what is written of an instance

-- the line of a checked network, with the status that goes with it
pub record IsCheck (parts : Parts) (status : Status) (bytes : List ℕ) : Type 0 where
  pub good : status ≡ Good
  pub line : IsCheckLine parts bytes

-- the plan is a valid one of the instance, so what it claims is so, and this line says it
pub record IsAcceptance (parts : Parts) (plan : Plan) (bytes : List ℕ) : Type 0 where
  pub valid : IsValidPlan parts plan
  pub claim : HasItsClaim parts plan
  pub line : bytes ≡ accepted_line plan

-- the plan is no valid one of the instance, and this line tells the first rule that it breaks
pub record IsRejection (parts : Parts) (plan : Plan) (bytes : List ℕ) : Type 0 where
  pub invalid : IsValidPlan parts plan → ⊥
  pub fault : Rejection
  pub first : PlanFinds parts plan (Some fault)
  pub told : fault ≢ rejections.OutOfMemory
  pub line : bytes ≡ rejected_line fault

-- a plan is accepted or rejected, with the status that goes with it
pub data IsVerdict (parts : Parts) (plan : Plan) (status : Status) (bytes : List ℕ) : Type 0 where
  accepted : status ≡ Good → IsAcceptance parts plan bytes → IsVerdict parts plan status bytes
  rejected : status ≡ Rejected → IsRejection parts plan bytes → IsVerdict parts plan status bytes

-- the plan is a valid one of the instance, so what it claims is so, and this text tells it by the names of the network
pub record IsReportOf (net : NetworkFile) (parts : Parts) (plan : Plan) (bytes : List ℕ) : Type 0 where
  pub valid : IsValidPlan parts plan
  pub claim : HasItsClaim parts plan
  pub text : bytes ≡ report_text net parts plan

-- a valid plan is told, and any other is rejected, with the status that goes with it
pub data IsReport (net : NetworkFile) (parts : Parts) (plan : Plan) (status : Status) (bytes : List ℕ) : Type 0 where
  reported : status ≡ Good → IsReportOf net parts plan bytes → IsReport net parts plan status bytes
  unreported : status ≡ Rejected → IsRejection parts plan bytes → IsReport net parts plan status bytes

-- the text that is written of the plan, with the status that goes with it
pub record IsRewritten (plan : Plan) (status : Status) (bytes : List ℕ) : Type 0 where
  pub good : status ≡ Good
  pub text : bytes ≡ written_text plan
  pub spelt : SpellsPlan bytes plan

-- ---- what is written of texts

-- the texts spell an instance within its limits, and this is its line
abbrev pub IsChecked : Texts → Status → List ℕ → Type 0
IsChecked texts status bytes = HoldsOfProblem texts (λ net parts plan. IsCheck parts status bytes)

-- the texts spell an instance within its limits and a plan, and this is the verdict on it
abbrev pub IsVerified : Texts → Status → List ℕ → Type 0
IsVerified texts status bytes = HoldsOfProblem texts (λ net parts plan. IsSomeAnd plan (λ made. IsVerdict parts made status bytes))

-- the texts spell an instance within its limits and a plan, and this is the report on it
abbrev pub IsReported : Texts → Status → List ℕ → Type 0
IsReported texts status bytes = HoldsOfProblem texts (λ net parts plan. IsSomeAnd plan (λ made. IsReport net parts made status bytes))

-- the texts are a plan by itself, and this is the text that is written of it anew
pub record IsUpgraded (texts : Texts) (status : Status) (bytes : List ℕ) : Type 0 where
  pub plan : Plan
  pub read : IsPlanAlone texts plan
  pub written : IsRewritten plan status bytes

-- where texts read as an instance and a plan, what is written of them so is good exactly if the plan is a valid one of the instance
abbrev pub IsGoodWhereValid : (Texts → Status → List ℕ → Type 0) → Type 0
IsGoodWhereValid Answers = (texts : Texts) (net : NetworkFile) (parts : Parts) (plan : Plan) (status : Status) (bytes : List ℕ) → Reads texts net parts → SpellsItsPlan texts.plan (Some plan) → Answers texts status bytes → (status ≡ Good) ↔ IsValidPlan parts plan

-- one status and one text are written of texts so
abbrev pub HasOneAnswer : (Texts → Status → List ℕ → Type 0) → Type 0
HasOneAnswer Answers = (texts : Texts) (status other : Status) (bytes more : List ℕ) → Answers texts status bytes → Answers texts other more → (status ≡ other) × (bytes ≡ more)

-- ---- what becomes of an answer

-- the status and the whole text of an answer, or of a refusal
abbrev pub IsWholeAnswer : Result Answer Stop → Status → List ℕ → Type 0
IsWholeAnswer (Ok answer) status whole = (status ≡ answer.status) × (whole ≡ answer.text.items)
IsWholeAnswer (Err (stops.Refused fault)) status whole = (status ≡ refusal_status fault) × (whole ≡ fault_line fault)
IsWholeAnswer (Err stops.OutOfMemory) status whole = ⊥

-- the text was written and its status given; or a front of it was, and the sink failed; or nothing was, and memory was wanting
pub data IsWritten (found : Result Answer Stop) (before now : Option (List ℕ)) (status : Status) : Type 0 where
  whole : (text : List ℕ) → IsWholeAnswer found status text → Appends before now text → IsWritten found before now status
  cut : (other : Status) (text : List ℕ) (written : ℕ) → IsWholeAnswer found other text → written < length text → Appends before now (take written text) → status ≡ WriteFault → IsWritten found before now status
  wanting : status ≡ OutOfMemory → Appends before now [] → IsWritten found before now status
