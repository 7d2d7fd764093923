-- From a drawn plan to how a run ends.
use Rattle.std.proofs.Common.{◌≡◌, ◌≢◌, ◌+◌, ◌≤◌, ◌<◌, ◌⊎◌, ℕ, true, false, true≢false, List, Option, Some, None, option_map, Result, sym, ◌∙◌, subst, arith, inl, inr}
use Rattle.std.specs.Prelude.{option_and_then, IfOk, IfErr, IsSomeAnd}
use Rattle.std.specs.Str.{bytes_eq}
use Rattle.std.proofs.lemmas.Bool.{cases_lt}
use Rattle.std.proofs.lemmas.Slice.Eq.{bytes_eq-Decides}
use Rattle.plan_io.specs.declared.shelf.Shelf as Shelf
use Rattle.plan_base.specs.declared.parts.Parts.{Parts}
use Rattle.snd_network.specs.declared.file.NetworkFile.{NetworkFile}
use Rattle.proof_tree.specs.declared.plan.Plan.{Plan}
use Rattle.command_texts.specs.declared.answer.Answer.{Answer}
use Rattle.command_texts.specs.declared.status.Status.{Status}
use Rattle.command_texts.specs.declared.stop.Stop.{Stop}
use Rattle.command_texts.specs.declared.stop.Stop.TheVariants as stops
use Rattle.command_texts.specs.Texts.{Name, Told, Texts, HoldsOfTexts}
use Rattle.command_texts.specs.Refusals.{IsProblem}
use Rattle.command_texts.specs.Shelf.{counts_since}
use Rattle.run_ends.specs.Ends.{IsUsage}
use Rattle.run_ends.specs.Found.{EndsSo, IsFound}
use Rattle.run_ends.specs.Programs.{IsFoundOn}
use Rattle.run_ends.proofs.Finding.{found_misread}
use Rattle.picture_runs.specs.PictureRuns.{picture_usage, Asked, IsDrawnSo, drawn, unnamed, undrawn, IsDrawn, IsEndOfDrawing}

-- ---- names

none-at : (f : ℕ → List ℕ) (name : List ℕ) (n : ℕ) → ((k : ℕ) → k < n → name ≢ f k) → (name ≢ f n) → (k : ℕ) → k < n + 1 → (k < n) ⊎ (n ≤ k) → name ≢ f k
none-at f name n none here k within (inl below) = none k below
none-at f name n none here k within (inr above) = let last : n ≡ k = omega (arith, within, above) in subst (λ i. name ≢ f i) last here

-- none of the names before the next place is this one
pub none_more : (f : ℕ → List ℕ) (name : List ℕ) (n : ℕ) → ((k : ℕ) → k < n → name ≢ f k) → bytes_eq name (f n) ≡ false → (k : ℕ) → k < n + 1 → name ≢ f k
none_more f name n none other k within = none-at f name n none (λ same. true≢false (sym ((bytes_eq-Decides name (f n)).1 same) ∙ other)) k within (cases_lt k n)

-- bytes that are equal by the test are equal
pub same_bytes : (xs ys : List ℕ) → bytes_eq xs ys ≡ true → xs ≡ ys
same_bytes xs ys = (bytes_eq-Decides xs ys).0

-- ---- texts

-- what is drawn of the instance and the plan that the read texts spell is drawn of these texts
pub drawn_texts : (name : Option Name) (names : Texts) (shelf : Told) (begun : ℕ) (net : NetworkFile) (parts : Parts) (plan : Plan) (status : Status) (bytes : List ℕ)
    → HoldsOfTexts shelf names begun (λ texts. IsProblem texts net parts (Some plan)) → IsDrawnSo net parts plan name status bytes
    → HoldsOfTexts shelf names begun (λ texts. IsDrawn name texts status bytes)
drawn_texts name names shelf begun net parts plan status bytes h is = record { texts = h.texts; read = h.read; holds = record { net = net; parts = parts; plan = Some plan; problem = h.holds; holds = is } }

drawn-ends : (name : Option Name) (net : NetworkFile) (parts : Parts) (plan : Option Plan) (status : Status) (bytes : List ℕ) → IsSomeAnd plan (λ made. IsDrawnSo net parts made name status bytes) → IsEndOfDrawing status
drawn-ends name net parts None status bytes is = absurd is
drawn-ends name net parts (Some plan) status bytes (drawn good is) = inl good
drawn-ends name net parts (Some plan) status bytes (unnamed usage is) = inr (inr usage)
drawn-ends name net parts (Some plan) status bytes (undrawn bad is) = inr (inl bad)

-- a drawing has its own statuses alone
pub drawn_ends : (name : Option Name) → EndsSo IsEndOfDrawing (IsDrawn name)
drawn_ends name = record { ends = λ texts status bytes done. drawn-ends name done.net done.parts done.plan status bytes done.holds; no_read = grind arith; no_write = grind arith; no_memory = grind arith }

-- ---- words

-- what is found for words that ask for a drawing
pub found_asked : {S : Type 0} (shelf : Shelf.Ghosts S) (asked : Option Asked) (names : Texts) (name : Option Name) (old new : S) (result : Result Answer Stop) → Some (names, name) ≡ asked
    → IsFoundOn shelf picture_usage (IsDrawn name) (Some names) old new result
    → IsFoundOn shelf picture_usage (IsDrawn (option_and_then (λ a. a.1) asked)) (option_map (λ a. a.0) asked) old new result
found_asked shelf asked names name old new result is found =
    subst (λ (a : Option Asked). IsFoundOn shelf picture_usage (IsDrawn (option_and_then (λ a. a.1) a)) (option_map (λ a. a.0) a) old new result) is found

-- what is found for words that are not read
pub found_unasked : {S : Type 0} (shelf : Shelf.Ghosts S) (asked : Option Asked) (lit : Option Name) (old : S) (result : Result Answer Stop) → None ≡ asked
    → IfOk result (λ answer. IsUsage picture_usage answer.status answer.text.items) → IfErr result (λ stop. stop ≡ stops.OutOfMemory)
    → IsFoundOn shelf picture_usage (IsDrawn lit) (option_map (λ a. a.0) asked) old old result
found_unasked shelf asked lit old result is usage wanting = record {
  found = subst (λ (a : Option Asked). IsFound picture_usage (IsDrawn lit) (option_map (λ a. a.0) a) (shelf.text old) (counts_since shelf old old) (shelf.begins old) (shelf.begins old) result) is
      (found_misread picture_usage (IsDrawn lit) (shelf.text old) (counts_since shelf old old) (shelf.begins old) result usage wanting);
  later = omega arith;
}
