-- What is written of the plan of a problem is what is written of the texts that spell it.
use Rattle.std.proofs.Common.{ℕ, List, None}
use Rattle.plan_base.specs.declared.parts.Parts.{Parts}
use Rattle.snd_network.specs.declared.file.NetworkFile.{NetworkFile}
use Rattle.command_texts.specs.declared.status.Status.{Status}
use Rattle.command_texts.specs.Texts.{Told, Texts, HoldsOfTexts}
use Rattle.command_texts.specs.Refusals.{IsProblem}
use Rattle.command_texts.proofs.Answering.{of_problem}
use Rattle.plan_run.specs.Plans.{IsPlanned, IsPlanDone}

-- a plan of the problem that the texts spell is a plan of the texts
pub planned_texts : (names : Texts) (shelf : Told) (begun : ℕ) (net : NetworkFile) (parts : Parts) (budget : ℕ) (status : Status) (bytes : List ℕ)
    → HoldsOfTexts shelf names begun (λ texts. IsProblem texts net parts None) → IsPlanned parts budget status bytes → HoldsOfTexts shelf names begun (λ texts. IsPlanDone budget texts status bytes)
planned_texts names shelf begun net parts budget status bytes h is = of_problem names shelf begun net parts None (λ net parts plan. IsPlanned parts budget status bytes) h is
