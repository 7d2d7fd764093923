-- What a run of a program does with a shelf and a sink, from what was found and what was written.
use Rattle.std.proofs.Common.{◌≡◌, ◌≤◌, ℕ, List, Option, Some, Result, Err, arith}
use Rattle.std.specs.Prelude.{IfOk}
use Rattle.plan_io.specs.Causes.{Rose}
use Rattle.plan_io.specs.declared.shelf.Shelf as Shelf
use Rattle.plan_io.specs.declared.sink.Sink as Sink
use Rattle.command_texts.specs.declared.answer.Answer.{Answer}
use Rattle.command_texts.specs.declared.status.Status.{Status}
use Rattle.command_texts.specs.declared.status.Status.TheVariants.{WriteFault}
use Rattle.command_texts.specs.declared.stop.Stop.{Stop}
use Rattle.command_texts.specs.declared.stop.Stop.TheVariants as stops
use Rattle.command_texts.specs.Texts.{Texts}
use Rattle.command_texts.specs.Answers.{IsWritten}
use Rattle.command_texts.specs.Shelf.{counts_since, AnswersOrStops}
use Rattle.run_ends.specs.Found.{EndsSo}
use Rattle.run_ends.specs.Programs.{IsFoundOn, IsRunOn}
use Rattle.run_ends.proofs.Finding.{found_named, found_wanting}
use Rattle.run_ends.proofs.Ending.{run_says, read_rose, no_write_fault, own_end}

-- what a call about named texts ensures is what was found on the shelf
pub named_on : {S : Type 0} (shelf : Shelf.Ghosts S) (usage_line : List ℕ) (Done : Texts → Status → List ℕ → Type 0) (names : Texts) (old new : S) (result : Result Answer Stop)
    → AnswersOrStops shelf names Done old new result → IsFoundOn shelf usage_line Done (Some names) old new result
named_on shelf usage_line Done names old new result h = record {
  found = found_named usage_line Done (shelf.text old) (counts_since shelf old new) names (shelf.begins old) (shelf.begins new) result h.done h.stops;
  later = h.stops.later;
}

-- memory was wanting before any text was begun
pub wanting_on : {S : Type 0} (shelf : Shelf.Ghosts S) (usage_line : List ℕ) (Done : Texts → Status → List ℕ → Type 0) (names : Option Texts) (old : S) → IsFoundOn shelf usage_line Done names old old (Err stops.OutOfMemory)
wanting_on shelf usage_line Done names old = record { found = found_wanting usage_line Done (shelf.text old) (counts_since shelf old old) names (shelf.begins old); later = omega arith }

-- what was found on the shelf, once it is written or fails to be, is a run of the program
pub run_on : {S W : Type 0} (shelf : Shelf.Ghosts S) (sink : Sink.Ghosts W) (usage_line : List ℕ) (Done : Texts → Status → List ℕ → Type 0) (IsEndOfWork : Status → Type 0) (names : Option Texts) (old new : S) (before now : W)
    (found : Result Answer Stop) (status : Status) → EndsSo IsEndOfWork Done → IsFoundOn shelf usage_line Done names old new found → IsWritten found (sink.contents before) (sink.contents now) status
    → (status ≡ WriteFault → IfOk found (λ answer. answer.status ≡ WriteFault → ⊥) → Rose (sink.faults before) (sink.faults now)) → sink.faults before ≤ sink.faults now
    → IsRunOn shelf sink usage_line Done IsEndOfWork names old new before now status
run_on shelf sink usage_line Done IsEndOfWork names old new before now found status ends h written wrote later =
    let text = shelf.text old in
    let counts = counts_since shelf old new in
    let first = shelf.begins old in
    let last = shelf.begins new in
    let write : status ≡ WriteFault → Rose (sink.faults before) (sink.faults now) = λ same. wrote same (no_write_fault usage_line Done names text counts IsEndOfWork ends first last found h.found) in
    record {
      answer = run_says usage_line Done names text counts IsEndOfWork ends first last found h.found (sink.contents before) (sink.contents now) status written;
      read_fault = read_rose usage_line Done names text counts IsEndOfWork ends first last found (sink.contents before) (sink.contents now) status h.found written;
      write_fault = write;
      complete = own_end usage_line Done names text counts IsEndOfWork ends first last found (sink.contents before) (sink.contents now) status h.found written write;
      shelf_later = h.later;
      sink_later = later;
    }
