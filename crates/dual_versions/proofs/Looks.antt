-- What a reader reads, and what it sees.
use Rattle.std.proofs.Common.{◌≡◌, ◌⊎◌, inl, inr, ℕ, ◌+◌, ◌<◌, List, [], ◌∷◌, ◌++◌, length, Result, Ok, Err, None, true≢false, ap, sym, subst, ◌∙◌, arith, length-append}
use Rattle.std.proofs.lemmas.List.{append_assoc, append-nil}
use Rattle.std.specs.Prelude.{slice_index_or, IfOk, MatchResult, IsOk}
use Rattle.dual_versions.specs.declared.table.Table.{Table}
use Rattle.dual_versions.specs.declared.rule.View.{View}
use Rattle.dual_versions.specs.Tables.{Entries, last_of, entry_at}
use Rattle.dual_versions.specs.Boards.{Begins, Sees}
use Rattle.dual_versions.specs.Rows.{shown_entries}
use Rattle.dual_versions.specs.Views.{Entered}
use Rattle.dual_versions.proofs.Puts.{last_of_more}

-- what follows from a property of an answer holds where the answer has it
pub if_ok : {A B : Type 0} (P Q : A → Type 0) (r : Result A B) → IfOk r P → ((a : A) → P a → Q a) → IfOk r Q
if_ok P Q (Ok a) p f = f a p
if_ok P Q (Err e) p f = tt

-- a successful answer has what the contract says of it
pub at_ok : {A B : Type 0} (P : A → Type 0) (Q : B → Type 0) (r : Result A B) → IsOk r → MatchResult r P Q → (a : A) × P a
at_ok P Q (Ok a) ok p = (a, p)
at_ok P Q (Err e) ok p = absurd (true≢false (sym ok))

some_tables : (before : List Entries) (t : Entries) → 0 < length (before ++ t ∷ [])
some_tables before t = omega (arith, length-append before (t ∷ []))

-- what a reader sees when it enters goes on from what it saw
sees : (v w u : View) (x : Table) (seen : List Entries) → Entered v x x w → u ≡ w → seen ≡ v.seen → Sees seen u.seen
sees v w u x seen e same is =
    let whole : u.seen ≡ e.before ++ shown_entries x.rows.items ∷ [] = ap (λ (y : View). y.seen) (same ∙ e.all) in (
      subst (λ (l : List Entries). 0 < length l) (sym whole) (some_tables e.before (shown_entries x.rows.items)),
      (e.later.0, ap (λ (y : View). y.seen) same ∙ (e.later.1 ∙ ap (λ (l : List Entries). l ++ e.later.0) (sym is))),
    )

-- what a reader reads of a slot is the entry of the newest table that it has seen
reads : (v w u : View) (x t : Table) (slot : ℕ) → Entered v x x w → u ≡ w → t ≡ x → entry_at slot u.seen ≡ slice_index_or (shown_entries t.rows.items) slot None
reads v w u x t slot e same is =
    ap (λ (l : List Entries). slice_index_or (last_of l) slot None) (ap (λ (y : View). y.seen) (same ∙ e.all))
    ∙ (ap (λ (l : Entries). slice_index_or l slot None) (last_of_more e.before (shown_entries x.rows.items)) ∙ ap (λ (y : Table). slice_index_or (shown_entries y.rows.items) slot None) (sym is))

-- both of what is read in a table while it is shown
pub shown_there : (v w u : View) (x t : Table) (seen : List Entries) (slot : ℕ) → Entered v x x w → u ≡ w → t ≡ x → seen ≡ v.seen
    → Sees seen u.seen × (entry_at slot u.seen ≡ slice_index_or (shown_entries t.rows.items) slot None)
shown_there v w u x t seen slot e same is was = (sees v w u x seen e same was, reads v w u x t slot e same is)

-- a beginning of a beginning is a beginning
pub begins_trans : (a b c : List Entries) → Begins a b → Begins b c → Begins a c
begins_trans a b c p q = (p.0 ++ q.0, q.1 ∙ (ap (λ (l : List Entries). l ++ q.0) p.1 ∙ append_assoc a p.0 q.0))

-- a list begins itself
pub begins_refl : (a : List Entries) → Begins a a
begins_refl a = ([], sym (append-nil a))

-- what begins the tables seen before begins those that are seen later
pub later_begins : (a b c : List Entries) → Begins a b → (c ≡ b) ⊎ Sees b c → Begins a c
later_begins a b c p (inl same) = subst (Begins a) (sym same) p
later_begins a b c p (inr seen) = begins_trans a b c p seen.1

-- what was seen later is seen from the beginning
pub sees_later : (a b c : List Entries) → Begins a b → Sees b c → Sees a c
sees_later a b c p seen = (seen.0, begins_trans a b c p seen.1)
