-- What a run of a program does with a shelf and a sink, from one state of them to a later one.
use Rattle.std.specs.Prelude.{ℕ, ◌≡◌, ◌≤◌, ◌⊎◌, List, Option, Result}
use Rattle.plan_io.specs.Causes.{Rose}
use Rattle.plan_io.specs.declared.shelf.Shelf as Shelf
use Rattle.plan_io.specs.declared.sink.Sink as Sink
use Rattle.command_texts.specs.declared.answer.Answer.{Answer}
use Rattle.command_texts.specs.declared.status.Status.{Status}
use Rattle.command_texts.specs.declared.status.Status.TheVariants.{ReadFault, WriteFault}
use Rattle.command_texts.specs.declared.stop.Stop.{Stop}
use Rattle.command_texts.specs.Texts.{Texts}
use Rattle.command_texts.specs.Shelf.{counts_since}
use Rattle.run_ends.specs.Ends.{IsTextRun, IsOwnEnd}
use Rattle.run_ends.specs.Found.{IsFound}

-- a run did its work, or stops for a cause that the counts of the shelf show, and its count of faults did not fall
pub record IsFoundOn {S : Type 0} (shelf : Shelf.Ghosts S) (usage_line : List ℕ) (Done : Texts → Status → List ℕ → Type 0) (names : Option Texts) (old new : S) (result : Result Answer Stop) : Type 0 where
  pub found : IsFound usage_line Done names (shelf.text old) (counts_since shelf old new) (shelf.begins old) (shelf.begins new) result
  pub later : shelf.faults old ≤ shelf.faults new

-- A run of a program on a shelf and a sink: what it began and wrote, why it failed, and that it has no other end unless something outside failed.
pub record IsRunOn {S W : Type 0} (shelf : Shelf.Ghosts S) (sink : Sink.Ghosts W) (usage_line : List ℕ) (Done : Texts → Status → List ℕ → Type 0) (IsEndOfWork : Status → Type 0) (names : Option Texts) (old new : S) (before now : W) (status : Status) : Type 0 where
  pub answer : IsTextRun usage_line Done names (shelf.text old) (counts_since shelf old new) (shelf.begins old) (shelf.begins new) (sink.contents before) (sink.contents now) status
  pub read_fault : status ≡ ReadFault → Rose (shelf.faults old) (shelf.faults new)
  pub write_fault : status ≡ WriteFault → Rose (sink.faults before) (sink.faults now)
  pub complete : IsOwnEnd IsEndOfWork names status ⊎ Rose (shelf.faults old) (shelf.faults new) ⊎ Rose (sink.faults before) (sink.faults now)
  pub shelf_later : shelf.faults old ≤ shelf.faults new
  pub sink_later : sink.faults before ≤ sink.faults now
