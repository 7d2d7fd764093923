-- What is written where a network is planned.
use Rattle.std.specs.Prelude.{ℕ, ◌≡◌, List}
use Rattle.plan_base.specs.declared.parts.Parts.{Parts}
use Rattle.proof_tree.specs.declared.cuts.Cut.{Cut}
use Rattle.proof_tree.specs.declared.plan.Plan.{Plan}
use Rattle.cert_format.specs.Grammar.{written_text, SpellsPlan}
use Rattle.command_texts.specs.declared.status.Status.{Status}
use Rattle.command_texts.specs.Statuses.{status_of_plan}
use Rattle.command_texts.specs.Texts.{Texts}
use Rattle.command_texts.specs.Refusals.{HoldsOfProblem}
use Rattle.plan_run.specs.Searches.{IsSearched}

-- the text that is written of a plan that a search gives for the instance, a list of cuts and the budget, with the status of that plan
pub record IsPlanned (parts : Parts) (budget : ℕ) (status : Status) (bytes : List ℕ) : Type 0 where
  pub plan : Plan
  pub cuts : List Cut
  pub spelt : SpellsPlan bytes plan
  pub text : bytes ≡ written_text plan
  pub searched : IsSearched parts cuts budget plan
  pub is_status : status ≡ status_of_plan plan.status

-- the texts spell an instance within its limits, and this is the text of such a plan of it
abbrev pub IsPlanDone : ℕ → Texts → Status → List ℕ → Type 0
IsPlanDone budget texts status bytes = HoldsOfProblem texts (λ net parts plan. IsPlanned parts budget status bytes)
