-- What was found of words and texts, before anything is written. Only private clauses cite this module.
use Rattle.std.specs.Prelude.{ℕ, ◌≡◌, ◌≤◌, List, Option, Some, None, Result, Ok, Err, IfErr}
use Rattle.std.specs.Option.{unwrap_or}
use Rattle.plan_report.specs.declared.run_fault.RunFault.{RunFault}
use Rattle.plan_report.specs.declared.run_fault.RunFault.TheVariants as faults
use Rattle.plan_report.specs.Lines.{fault_line}
use Rattle.command_texts.specs.declared.answer.Answer.{Answer}
use Rattle.command_texts.specs.declared.status.Status.{Status}
use Rattle.command_texts.specs.declared.status.Status.TheVariants.{ReadFault, WriteFault, OutOfMemory as NoMemory}
use Rattle.command_texts.specs.declared.stop.Stop.{Stop}
use Rattle.command_texts.specs.declared.stop.Stop.TheVariants.{Refused, OutOfMemory}
use Rattle.command_texts.specs.Texts.{Told, Texts, Begun, empty_texts, text_count, HoldsOfTexts}
use Rattle.command_texts.specs.Refusals.{IsRefusalOf, Counts, IsShownBy}
use Rattle.run_ends.specs.Ends.{IsUsage}

-- the work ends with these statuses alone, none of which tells that something outside failed or that memory was wanting
pub record EndsSo (IsEndOfWork : Status → Type 0) (Done : Texts → Status → List ℕ → Type 0) : Type 0 where
  pub ends : (texts : Texts) (status : Status) (bytes : List ℕ) → Done texts status bytes → IsEndOfWork status
  pub no_read : IsEndOfWork ReadFault → ⊥
  pub no_write : IsEndOfWork WriteFault → ⊥
  pub no_memory : IsEndOfWork NoMemory → ⊥

-- the words are not read, or the work is done for the texts of these names
abbrev pub IsDoneFor : List ℕ → (Texts → Status → List ℕ → Type 0) → Option Texts → Told → ℕ → Status → List ℕ → Type 0
IsDoneFor usage_line Done None shelf begun status bytes = (begun ≡ 0) × IsUsage usage_line status bytes
IsDoneFor usage_line Done (Some names) shelf begun status bytes = HoldsOfTexts shelf names begun (λ texts. Done texts status bytes)

-- the words are refused by the usage line, or texts of these names may be refused so
abbrev pub IsRefusalFor : List ℕ → Option Texts → Told → ℕ → RunFault → Type 0
IsRefusalFor usage_line None shelf begun faults.Usage = (begun ≡ 0) × (fault_line faults.Usage ≡ usage_line)
IsRefusalFor usage_line None shelf begun fault = ⊥
IsRefusalFor usage_line (Some names) shelf begun fault = IsRefusalOf names shelf begun fault

-- a run did its work, or stops for this cause
abbrev pub IsResult : List ℕ → (Texts → Status → List ℕ → Type 0) → Option Texts → Told → ℕ → Result Answer Stop → Type 0
IsResult usage_line Done names shelf begun (Ok answer) = IsDoneFor usage_line Done names shelf begun answer.status answer.text.items
IsResult usage_line Done names shelf begun (Err (Refused fault)) = IsRefusalFor usage_line names shelf begun fault
IsResult usage_line Done names shelf begun (Err OutOfMemory) = Unit {0}

-- the counts show the cause of a stop
abbrev pub IsShownStop : Counts → Stop → Type 0
IsShownStop counts (Refused fault) = IsShownBy counts fault
IsShownStop counts OutOfMemory = Unit {0}

-- a run did its work, or stops for a cause that the counts show, and the count of begins rose by the texts begun
pub record IsFound (usage_line : List ℕ) (Done : Texts → Status → List ℕ → Type 0) (names : Option Texts) (shelf : Told) (counts : Counts) (before now : ℕ) (result : Result Answer Stop) : Type 0 where
  pub begun : ℕ
  pub rises : Begun begun before now
  pub few : begun ≤ text_count (unwrap_or names empty_texts)
  pub is : IsResult usage_line Done names shelf begun result
  pub shown : IfErr result (IsShownStop counts)
