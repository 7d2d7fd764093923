-- The main statement: what the status of a run says of its words, its texts and the bytes written. run of src/top_call.rt has it as its contract.
use Rattle.std.specs.Prelude.{ℕ, ◌≡◌, List, Option, option_map, IsSomeAnd}
use Rattle.plan_report.specs.declared.run_fault.RunFault.TheVariants as faults
use Rattle.plan_report.specs.Lines.{fault_line}
use Rattle.command_words.specs.declared.command.Command.{Command}
use Rattle.command_words.specs.declared.command.Command.TheVariants.{OfNetwork, OfPlan, Upgrade, OfSample}
use Rattle.command_words.specs.declared.command.NetworkWork.TheVariants.{Plan, Check}
use Rattle.command_words.specs.declared.command.PlanWork.TheVariants.{Verify, Report}
use Rattle.command_words.specs.Words.{Word, command_in}
use Rattle.command_texts.specs.declared.status.Status.{Status}
use Rattle.command_texts.specs.Texts.{Told, Texts, empty_texts, alone, two, three}
use Rattle.command_texts.specs.Refusals.{Counts}
use Rattle.command_texts.specs.Answers.{IsChecked, IsVerified, IsReported, IsUpgraded}
use Rattle.run_ends.specs.Ends.{IsTextRun}
use Rattle.plan_run.specs.Plans.{IsPlanDone}
use Rattle.plan_run.specs.Samples.{IsMade}

-- ---- commands

-- the names of the texts that a command reads
abbrev pub texts_of_command : Command Word → Texts
texts_of_command (OfNetwork work network model) = two network model
texts_of_command (OfPlan work network model plan) = three network model plan
texts_of_command (Upgrade plan) = alone plan
texts_of_command (OfSample work key) = empty_texts

-- the texts spell what the command works on, and it does its work with this status and this text
abbrev pub IsWorkDone : Command Word → Texts → Status → List ℕ → Type 0
IsWorkDone (OfNetwork (Plan workers budget) network model) texts status bytes = IsPlanDone budget texts status bytes
IsWorkDone (OfNetwork Check network model) texts status bytes = IsChecked texts status bytes
IsWorkDone (OfPlan Verify network model plan) texts status bytes = IsVerified texts status bytes
IsWorkDone (OfPlan Report network model plan) texts status bytes = IsReported texts status bytes
IsWorkDone (Upgrade plan) texts status bytes = IsUpgraded texts status bytes
IsWorkDone (OfSample work key) texts status bytes = (texts ≡ empty_texts) × IsMade work key status bytes

-- ---- the run

-- the names of the texts that the words name, where they are read
abbrev pub texts_in_words : List Word → Option Texts
texts_in_words words = option_map texts_of_command (command_in words)

-- the texts spell what the command of these words works on, and it does its work with this status and this text
abbrev pub IsDoneSo : List Word → Texts → Status → List ℕ → Type 0
IsDoneSo words texts status bytes = IsSomeAnd (command_in words) (λ command. IsWorkDone command texts status bytes)

-- A run of these words ends with what their command writes, with a refusal of words or texts, with a front of such an answer, or with nothing.
abbrev pub IsCommandRun : List Word → Told → Counts → ℕ → ℕ → Option (List ℕ) → Option (List ℕ) → Status → Type 0
IsCommandRun words shelf counts begins_before begins_now before now status = IsTextRun (fault_line faults.Usage) (IsDoneSo words) (texts_in_words words) shelf counts begins_before begins_now before now status
