-- From three words, or others, to what a program finds that takes the names of a network, a model and a plan.
use Rattle.std.proofs.Common.{map, ◌≡◌, ◌≤◌, ◌<◌, List, [], ◌∷◌, length, ℕ, get_or, Some, None, Result, refl, arith}
use Rattle.std.specs.Prelude.{IfOk, IfErr}
use Rattle.plan_io.specs.declared.shelf.Shelf as Shelf
use Rattle.command_texts.specs.declared.answer.Answer.{Answer}
use Rattle.command_texts.specs.declared.status.Status.{Status}
use Rattle.command_texts.specs.declared.stop.Stop.{Stop}
use Rattle.command_texts.specs.declared.stop.Stop.TheVariants as stops
use Rattle.command_texts.specs.Texts.{Name, Texts, three}
use Rattle.command_texts.specs.Shelf.{counts_since, AnswersOrStops}
use Rattle.run_ends.specs.Ends.{IsUsage}
use Rattle.run_ends.specs.Programs.{IsFoundOn}
use Rattle.run_ends.proofs.Items.{three_items}
use Rattle.run_ends.proofs.Finding.{found_misread}
use Rattle.run_ends.proofs.Programs.{named_on}
use Rattle.verify_runs.specs.VerifyRuns.{names_in}

-- what a call about the texts of three words ensures is what is found for the words
pub found_three : {A S : Type 0} (shelf : Shelf.Ghosts S) (usage_line : List ℕ) (Done : Texts → Status → List ℕ → Type 0) (name : A → Name) (words : List A) (one two third : A) (network model plan : Name) (old new : S) (result : Result Answer Stop)
    → 3 ≤ length words → length words < 4 → one ≡ get_or words 0 one → two ≡ get_or words 1 two → third ≡ get_or words 2 third → network ≡ name one → model ≡ name two → plan ≡ name third
    → AnswersOrStops shelf (three network model plan) Done old new result → IsFoundOn shelf usage_line Done (names_in (map name words)) old new result
found_three shelf usage_line Done name words one two third network model plan old new result least most a b c n m p answers =
    let found : IsFoundOn shelf usage_line Done (Some (three network model plan)) old new result = named_on shelf usage_line Done (three network model plan) old new result answers in
    let named : IsFoundOn shelf usage_line Done (Some (three (name one) (name two) (name third))) old new result = rw (← n, ← m, ← p) found in
    rw (three_items words one two third least most a b c) named

no-names : {A : Type 0} (name : A → Name) (words : List A) → (length words ≡ 3 → ⊥) → names_in (map name words) ≡ None
no-names name [] three = refl
no-names name (_ ∷ []) three = refl
no-names name (_ ∷ _ ∷ []) three = refl
no-names name (_ ∷ _ ∷ _ ∷ []) three = absurd (three refl)
no-names name (_ ∷ _ ∷ _ ∷ _ ∷ words) three = refl

-- what is found for other words
pub found_other : {A S : Type 0} (shelf : Shelf.Ghosts S) (usage_line : List ℕ) (Done : Texts → Status → List ℕ → Type 0) (name : A → Name) (words : List A) (old : S) (result : Result Answer Stop) → (length words ≡ 3 → ⊥)
    → IfOk result (λ answer. IsUsage usage_line answer.status answer.text.items) → IfErr result (λ stop. stop ≡ stops.OutOfMemory)
    → IsFoundOn shelf usage_line Done (names_in (map name words)) old old result
found_other shelf usage_line Done name words old result three is wanting = record {
  found = rw (no-names name words three) (found_misread usage_line Done (shelf.text old) (counts_since shelf old old) (shelf.begins old) result is wanting);
  later = omega arith;
}
