-- What a run found, from what the calls about its texts ensure.
use Rattle.std.proofs.Common.{◌≡◌, ℕ, List, Option, Some, None, Result, Ok, Err, refl, arith}
use Rattle.std.specs.Prelude.{IfOk, IfErr}
use Rattle.std.specs.Result.{result_err}
use Rattle.plan_io.specs.Causes.{Rose}
use Rattle.plan_report.specs.declared.run_fault.RunFault.TheVariants as faults
use Rattle.plan_report.specs.Lines.{fault_line}
use Rattle.command_texts.specs.declared.answer.Answer.{Answer}
use Rattle.command_texts.specs.declared.status.Status.{Status}
use Rattle.command_texts.specs.declared.stop.Stop.{Stop}
use Rattle.command_texts.specs.declared.stop.Stop.TheVariants as stops
use Rattle.command_texts.specs.Texts.{Told, Texts, Begun, text_count, HoldsOfTexts}
use Rattle.command_texts.specs.Refusals.{Counts}
use Rattle.command_texts.specs.Stops.{IsReadStop, TookMore, Stops, BeginsOrStops}
use Rattle.command_texts.proofs.Answering.{shown}
use Rattle.run_ends.specs.Ends.{IsUsage}
use Rattle.run_ends.specs.Found.{IsShownStop, IsFound}

shown-stop : (counts : Counts) (stop : Stop) → (IsReadStop stop → Rose counts.faults_before counts.faults_now) → TookMore counts.taken stop → IsShownStop counts stop
shown-stop counts (stops.Refused fault) rose more = shown counts fault rose more
shown-stop counts stops.OutOfMemory rose more = tt

-- no text is begun between a count of begins and the same count
pub nothing-begun : (before : ℕ) → Begun 0 before before
nothing-begun before = record { exact = λ room. omega arith; later = omega arith; few = omega arith }

module _ (usage_line : List ℕ) (Done : Texts → Status → List ℕ → Type 0) (shelf : Told) (counts : Counts) where
  stopped : (names : Texts) (before now : ℕ) (stop : Stop) → Stops names shelf before now stop → IsShownStop counts stop → IsFound usage_line Done (Some names) shelf counts before now (Err stop)
  stopped names before now (stops.Refused fault) h seen = record { begun = h.begun; rises = h.rises; few = h.few; is = h.is; shown = seen }
  stopped names before now stops.OutOfMemory h seen = record { begun = h.begun; rises = h.rises; few = h.few; is = tt; shown = seen }

  -- what a call about named texts ensures is what was found
  pub found_named : (names : Texts) (before now : ℕ) (result : Result Answer Stop)
      → IfOk result (λ answer. HoldsOfTexts shelf names (text_count names) (λ texts. Done texts answer.status answer.text.items)) → BeginsOrStops names shelf counts before now (result_err result)
      → IsFound usage_line Done (Some names) shelf counts before now result
  found_named names before now (Ok answer) done ends = record { begun = text_count names; rises = ends.begun; few = omega arith; is = done; shown = tt }
  found_named names before now (Err stop) done ends = stopped names before now stop ends.stops (shown-stop counts stop ends.read_fault ends.too_long)

  -- words that are not read begin no text
  pub found_usage : (before : ℕ) (answer : Answer) → IsUsage usage_line answer.status answer.text.items → IsFound usage_line Done None shelf counts before before (Ok answer)
  found_usage before answer is = record { begun = 0; rises = nothing-begun before; few = omega arith; is = (refl, is); shown = tt }

  -- the same of words that are refused as such
  pub found_unread : (before : ℕ) → fault_line faults.Usage ≡ usage_line → IsFound usage_line Done None shelf counts before before (Err (stops.Refused faults.Usage))
  found_unread before line = record { begun = 0; rises = nothing-begun before; few = omega arith; is = (refl, line); shown = tt }

  -- memory was wanting before any text was begun
  pub found_wanting : (names : Option Texts) (before : ℕ) → IsFound usage_line Done names shelf counts before before (Err stops.OutOfMemory)
  found_wanting names before = record { begun = 0; rises = nothing-begun before; few = omega arith; is = tt; shown = tt }

  -- the usage line is said, or memory was wanting for it
  pub found_misread : (before : ℕ) (result : Result Answer Stop) → IfOk result (λ answer. IsUsage usage_line answer.status answer.text.items) → IfErr result (λ stop. stop ≡ stops.OutOfMemory) → IsFound usage_line Done None shelf counts before before result
  found_misread before (Ok answer) is wanting = found_usage before answer is
  found_misread before (Err stop) is wanting = rw wanting (found_wanting None before)
