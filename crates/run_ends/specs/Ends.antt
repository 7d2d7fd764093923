-- How a run of a program about named texts ends: what its status says of the texts begun and of the bytes written.
-- A program is its usage line and its work, `Done`: which status and bytes it may give for texts that were read.
use Rattle.std.specs.Prelude.{ℕ, ◌≡◌, ◌+◌, ◌^◌, ◌<◌, ◌≤◌, ◌⊎◌, List, [], length, take, Option, Some, None}
use Rattle.std.specs.Option.{unwrap_or}
use Rattle.std.specs.Io.KnownBytes.{Appends}
use Rattle.plan_report.specs.declared.run_fault.RunFault.{RunFault}
use Rattle.plan_report.specs.Lines.{fault_line}
use Rattle.command_texts.specs.declared.status.Status.{Status}
use Rattle.command_texts.specs.declared.status.Status.TheVariants.{Usage, BadText, Unsupported, OverLimit, WriteFault, OutOfMemory}
use Rattle.command_texts.specs.Statuses.{refusal_status}
use Rattle.command_texts.specs.Texts.{Told, Texts, empty_texts, text_count, HoldsOfTexts}
use Rattle.command_texts.specs.Refusals.{IsRefusalOf, Counts, IsShownBy}

-- ---- answers

-- texts of these names, so many of which were begun, are refused for a cause that the counts show, with its status and its line
pub record IsRefusedSo (names : Texts) (shelf : Told) (counts : Counts) (begun : ℕ) (status : Status) (bytes : List ℕ) : Type 0 where
  pub fault : RunFault
  pub refusal : IsRefusalOf names shelf begun fault
  pub shown : IsShownBy counts fault
  pub is_status : status ≡ refusal_status fault
  pub line : bytes ≡ fault_line fault

-- The words name these texts, which are refused or for which the work is done; or they are not read: then no text is begun, and the line tells how the program is called.
abbrev pub IsAnswer : List ℕ → (Texts → Status → List ℕ → Type 0) → Option Texts → Told → Counts → ℕ → Status → List ℕ → Type 0
IsAnswer usage_line Done None shelf counts begun status bytes = (begun ≡ 0) × (status ≡ Usage) × (bytes ≡ usage_line)
IsAnswer usage_line Done (Some names) shelf counts begun status bytes = IsRefusedSo names shelf counts begun status bytes ⊎ HoldsOfTexts shelf names begun (λ texts. Done texts status bytes)

-- ---- the run

-- these bytes are a front of the whole text of an answer, and not all of it
pub record IsCutAnswer (usage_line : List ℕ) (Done : Texts → Status → List ℕ → Type 0) (names : Option Texts) (shelf : Told) (counts : Counts) (begun : ℕ) (bytes : List ℕ) : Type 0 where
  pub status : Status
  pub whole : List ℕ
  pub written : ℕ
  pub answer : IsAnswer usage_line Done names shelf counts begun status whole
  pub cut : written < length whole
  pub front : bytes ≡ take written whole

-- what each status says of the texts begun and of the bytes written; where memory was wanting no more texts were begun than are named
abbrev pub Says : List ℕ → (Texts → Status → List ℕ → Type 0) → Option Texts → Told → Counts → ℕ → Status → List ℕ → Type 0
Says usage_line Done names shelf counts begun WriteFault bytes = IsCutAnswer usage_line Done names shelf counts begun bytes
Says usage_line Done names shelf counts begun OutOfMemory bytes = (begun ≤ text_count (unwrap_or names empty_texts)) × (bytes ≡ [])
Says usage_line Done names shelf counts begun status bytes = IsAnswer usage_line Done names shelf counts begun status bytes

-- A run began so many texts, wrote these bytes and nothing else, and its status says so.
pub record IsTextRun (usage_line : List ℕ) (Done : Texts → Status → List ℕ → Type 0) (names : Option Texts) (shelf : Told) (counts : Counts) (begins_before begins_now : ℕ) (before now : Option (List ℕ)) (status : Status) : Type 0 where
  pub begun : ℕ
  pub bytes : List ℕ
  pub rise : begins_before < 2 ^ 62 → begins_now ≡ begins_before + begun
  pub says : Says usage_line Done names shelf counts begun status bytes
  pub written : Appends before now bytes

-- how a run ends where nothing outside fails: its words are not read; or its work is done, with a status of such work, or its texts are refused; or memory is wanting
abbrev pub IsOwnEnd : (Status → Type 0) → Option Texts → Status → Type 0
IsOwnEnd IsEndOfWork None status = (status ≡ Usage) ⊎ (status ≡ OutOfMemory)
IsOwnEnd IsEndOfWork (Some names) status = IsEndOfWork status ⊎ (status ≡ BadText) ⊎ (status ≡ Unsupported) ⊎ (status ≡ OverLimit) ⊎ (status ≡ OutOfMemory)

-- what is said of words that are not read
abbrev pub IsUsage : List ℕ → Status → List ℕ → Type 0
IsUsage usage_line status bytes = (status ≡ Usage) × (bytes ≡ usage_line)
