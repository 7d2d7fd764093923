-- What was found of words and texts, before anything is written. Only private clauses cite this module.
use Rattle.std.specs.Prelude.{ℕ, List, Some, Result}
use Rattle.plan_report.specs.declared.run_fault.RunFault.TheVariants as faults
use Rattle.plan_report.specs.Lines.{fault_line}
use Rattle.command_words.specs.declared.command.Command.{Command}
use Rattle.command_words.specs.Words.{Word}
use Rattle.command_texts.specs.declared.answer.Answer.{Answer}
use Rattle.command_texts.specs.declared.stop.Stop.{Stop}
use Rattle.command_texts.specs.Texts.{Told}
use Rattle.command_texts.specs.Refusals.{Counts}
use Rattle.run_ends.specs.Found.{IsFound}
use Rattle.plan_run.specs.Runs.{texts_of_command, texts_in_words, IsWorkDone, IsDoneSo}

-- the command did its work, or stops for a cause that the counts show
abbrev pub IsFoundBy : Command Word → Told → Counts → ℕ → ℕ → Result Answer Stop → Type 0
IsFoundBy command shelf counts before now result = IsFound (fault_line faults.Usage) (IsWorkDone command) (Some (texts_of_command command)) shelf counts before now result

-- the same of a run of these words
abbrev pub IsFoundFor : List Word → Told → Counts → ℕ → ℕ → Result Answer Stop → Type 0
IsFoundFor words shelf counts before now result = IsFound (fault_line faults.Usage) (IsDoneSo words) (texts_in_words words) shelf counts before now result
