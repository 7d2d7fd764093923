-- What a command about texts does with a shelf, from one state of it to a later one.
use Rattle.std.specs.Prelude.{List, ℕ, Result, IfOk}
use Rattle.std.specs.Result.{result_err}
use Rattle.plan_io.specs.declared.shelf.Shelf.{Ghosts}
use Rattle.command_texts.specs.declared.answer.Answer.{Answer}
use Rattle.command_texts.specs.declared.status.Status.{Status}
use Rattle.command_texts.specs.declared.stop.Stop.{Stop}
use Rattle.command_texts.specs.Texts.{Texts, text_count, HoldsOfTexts}
use Rattle.command_texts.specs.Refusals.{Counts, counts_of}
use Rattle.command_texts.specs.Stops.{BeginsOrStops}

-- the counts of a shelf: its faults before and now, and the bytes taken since a text was begun last
abbrev pub counts_since : {S : Type 0} → Ghosts S → S → S → Counts
counts_since shelf old new = counts_of (shelf.faults old) (shelf.faults new) (shelf.taken new)

-- a command begins all texts of these names on the shelf, or it stops for a cause that the counts of the shelf show
abbrev pub BeginsOrStopsOn : {S T : Type 0} → Ghosts S → Texts → S → S → Result T Stop → Type 0
BeginsOrStopsOn shelf names old new result = BeginsOrStops names (shelf.text old) (counts_since shelf old new) (shelf.begins old) (shelf.begins new) (result_err result)

-- a command reads all texts of these names on the shelf and gives an answer that is one of its work, or it stops so
pub record AnswersOrStops {S : Type 0} (shelf : Ghosts S) (names : Texts) (Done : Texts → Status → List ℕ → Type 0) (old new : S) (result : Result Answer Stop) : Type 0 where
  pub done : IfOk result (λ answer. HoldsOfTexts (shelf.text old) names (text_count names) (λ texts. Done texts answer.status answer.text.items))
  pub stops : BeginsOrStopsOn shelf names old new result
