-- What a run found, from what its commands ensure.
use Rattle.std.proofs.Common.{◌≡◌, ℕ, List, Option, Some, None, option_map, Result, Ok, Err, refl, subst, arith}
use Rattle.std.specs.Prelude.{IfOk, IsSomeAnd}
use Rattle.std.specs.Result.{result_err}
use Rattle.plan_report.specs.declared.run_fault.RunFault.TheVariants as faults
use Rattle.plan_report.specs.Lines.{fault_line}
use Rattle.command_words.specs.declared.command.Command.{Command}
use Rattle.command_words.specs.declared.command.Command.TheVariants.{OfSample}
use Rattle.command_words.specs.declared.command.SampleKey.{SampleKey}
use Rattle.command_words.specs.declared.command.SampleWork.{SampleWork}
use Rattle.command_words.specs.Words.{Word, command_in}
use Rattle.command_texts.specs.declared.answer.Answer.{Answer}
use Rattle.command_texts.specs.declared.stop.Stop.{Stop}
use Rattle.command_texts.specs.declared.stop.Stop.TheVariants as stops
use Rattle.command_texts.specs.Texts.{Told, empty_texts, text_count, AreRead, HoldsOfTexts}
use Rattle.command_texts.specs.Refusals.{Counts}
use Rattle.command_texts.specs.Stops.{BeginsOrStops}
use Rattle.run_ends.specs.Found.{IsFound}
use Rattle.run_ends.proofs.Finding.{found_named, found_unread as unread, found_wanting as wanting, nothing-begun}
use Rattle.plan_run.specs.Runs.{texts_of_command, IsWorkDone}
use Rattle.plan_run.specs.Samples.{IsMade}
use Rattle.plan_run.specs.Found.{IsFoundBy, IsFoundFor}

-- ---- commands

-- what a command about texts ensures is what was found
pub found : (command : Command Word) (shelf : Told) (counts : Counts) (before now : ℕ) (result : Result Answer Stop)
    → IfOk result (λ answer. HoldsOfTexts shelf (texts_of_command command) (text_count (texts_of_command command)) (λ texts. IsWorkDone command texts answer.status answer.text.items))
    → BeginsOrStops (texts_of_command command) shelf counts before now (result_err result) → IsFoundBy command shelf counts before now result
found command shelf counts before now result done ends = found_named (fault_line faults.Usage) (IsWorkDone command) shelf counts (texts_of_command command) before now result done ends

-- no text was read
none-read : (shelf : Told) → AreRead shelf empty_texts 0 empty_texts
none-read shelf = record { all = refl; network_read = tt; model_read = tt; plan_read = tt }

-- something was done with a sample
pub found_made : (work : SampleWork) (key : SampleKey) (shelf : Told) (counts : Counts) (before : ℕ) (answer : Answer) → IsMade work key answer.status answer.text.items → IsFoundBy (OfSample work key) shelf counts before before (Ok answer)
found_made work key shelf counts before answer is = record { begun = 0; rises = nothing-begun before; few = omega arith; is = record { texts = empty_texts; read = none-read shelf; holds = (refl, is) }; shown = tt }

-- memory was wanting before any text was begun
pub found_short : (command : Command Word) (shelf : Told) (counts : Counts) (before : ℕ) → IsFoundBy command shelf counts before before (Err stops.OutOfMemory)
found_short command shelf counts before = wanting (fault_line faults.Usage) (IsWorkDone command) shelf counts (Some (texts_of_command command)) before

-- ---- words

-- what is found where words are read as this command, or are not
abbrev IsFoundOf : Option (Command Word) → Told → Counts → ℕ → ℕ → Result Answer Stop → Type 0
IsFoundOf command shelf counts before now result = IsFound (fault_line faults.Usage) (λ texts status bytes. IsSomeAnd command (λ c. IsWorkDone c texts status bytes)) (option_map texts_of_command command) shelf counts before now result

-- what a command found is what was found for the words that name it
pub found_read : (words : List Word) (shelf : Told) (counts : Counts) (before now : ℕ) (command : Command Word) (result : Result Answer Stop) → Some command ≡ command_in words
    → IsFoundBy command shelf counts before now result → IsFoundFor words shelf counts before now result
found_read words shelf counts before now command result is h = subst (λ (o : Option (Command Word)). IsFoundOf o shelf counts before now result) is h

-- words that name no command are a fault of usage
pub found_unread : (words : List Word) (shelf : Told) (counts : Counts) (before : ℕ) → None ≡ command_in words → IsFoundFor words shelf counts before before (Err (stops.Refused faults.Usage))
found_unread words shelf counts before is =
    subst (λ (o : Option (Command Word)). IsFoundOf o shelf counts before before (Err (stops.Refused faults.Usage))) is
    (unread (fault_line faults.Usage) (λ texts status bytes. IsSomeAnd {T = Command Word} None (λ c. IsWorkDone c texts status bytes)) shelf counts before refl)

-- memory was wanting before any text was begun
pub found_wanting : (words : List Word) (shelf : Told) (counts : Counts) (before : ℕ) → IsFoundFor words shelf counts before before (Err stops.OutOfMemory)
found_wanting words shelf counts before = wanting (fault_line faults.Usage) (λ texts status bytes. IsSomeAnd (command_in words) (λ c. IsWorkDone c texts status bytes)) shelf counts (option_map texts_of_command (command_in words)) before
