-- Texts that are supported: what a command ends with where it does its work for them.
use Rattle.std.specs.Prelude.{ℕ, ◌≡◌, ◌≤◌, ◌⊎◌, List, length, Option, Some, None, IsSomeAnd}
use Rattle.plan_report.specs.declared.run_fault.FileKind.{FileKind}
use Rattle.plan_report.specs.declared.run_fault.FileKind.TheVariants as files
use Rattle.plan_report.specs.declared.run_fault.RunFault.TheVariants as faults
use Rattle.plan_report.specs.Lines.{fault_line}
use Rattle.command_words.specs.declared.command.Command.{Command}
use Rattle.command_words.specs.declared.command.Command.TheVariants.{OfNetwork, OfPlan, Upgrade, OfSample}
use Rattle.command_words.specs.declared.command.NetworkWork.TheVariants.{Plan, Check}
use Rattle.command_words.specs.declared.command.SampleWork.TheVariants.{Sample, Trial}
use Rattle.command_words.specs.Words.{Word, command_in}
use Rattle.command_texts.specs.declared.status.Status.{Status}
use Rattle.command_texts.specs.declared.status.Status.TheVariants.{Good, Rejected, Infeasible, Undecided}
use Rattle.command_texts.specs.Texts.{Text, Name, Told, Texts, most_bytes}
use Rattle.command_texts.specs.Refusals.{AreGood, Counts}
use Rattle.run_ends.specs.Ends.{Says}
use Rattle.plan_run.specs.Runs.{texts_of_command, texts_in_words, IsDoneSo}

-- the shelf tells this text of this name, and it is within the limit of its kind
pub record IsTold (shelf : Told) (file : FileKind) (name : Name) (text : Text) : Type 0 where
  pub told : shelf name ≡ Some text
  pub within : length text ≤ most_bytes file

-- the same of the text of a kind, where one is named
abbrev pub IsKindTold : Told → FileKind → Option Name → Option Text → Type 0
IsKindTold shelf file None None = Unit {0}
IsKindTold shelf file (Some name) (Some text) = IsTold shelf file name text
IsKindTold shelf file name text = ⊥

-- the shelf tells the texts of these names, and they spell what a command works on
pub record AreToldWell (shelf : Told) (names : Texts) : Type 0 where
  pub texts : Texts
  pub network_told : IsKindTold shelf files.Network names.network texts.network
  pub model_told : IsKindTold shelf files.Model names.model texts.model
  pub plan_told : IsKindTold shelf files.Plan names.plan texts.plan
  pub good : AreGood texts

-- the words ask for the command, and the shelf tells the texts that they name, which spell what it works on
pub record AreSupported (words : List Word) (shelf : Told) (command : Command Word) : Type 0 where
  pub asked : command_in words ≡ Some command
  pub texts : AreToldWell shelf (texts_of_command command)

-- how a command ends that does its work
abbrev pub EndsWith : Command Word → Status → Type 0
EndsWith (OfNetwork (Plan workers budget) network model) status = (status ≡ Good) ⊎ (status ≡ Infeasible) ⊎ (status ≡ Undecided)
EndsWith (OfNetwork Check network model) status = status ≡ Good
EndsWith (OfPlan work network model plan) status = (status ≡ Good) ⊎ (status ≡ Rejected)
EndsWith (Upgrade plan) status = status ≡ Good
EndsWith (OfSample Sample key) status = status ≡ Good
EndsWith (OfSample Trial key) status = (status ≡ Good) ⊎ (status ≡ Infeasible) ⊎ (status ≡ Undecided)

-- how a run of these words ends that does what they ask for
abbrev pub IsEndOfWork : List Word → Status → Type 0
IsEndOfWork words status = IsSomeAnd (command_in words) (λ command. EndsWith command status)

-- what each status says of the texts begun and of the bytes written, in a run of these words
abbrev pub SaysOf : List Word → Told → Counts → ℕ → Status → List ℕ → Type 0
SaysOf words shelf counts begun status bytes = Says (fault_line faults.Usage) (IsDoneSo words) (texts_in_words words) shelf counts begun status bytes
