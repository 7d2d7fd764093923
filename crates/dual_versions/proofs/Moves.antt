-- Each step keeps the rule.
use Rattle.std.proofs.Common.{◌≡◌, ◌≢◌, ◌⊎◌, ℕ, zero, suc, ◌+◌, ◌-◌, List, [], ◌∷◌, ◌++◌, length, set, Bool, true, false, true≢false, refl, sym, ap, ◌∙◌, subst, ⊎_elim, arith, length-append}
use Rattle.std.proofs.lemmas.List.{append-nil, append_assoc}
use mathlib.Core.Option.{some, some-ne-none, some-injective}
use lib.ListN.{get_elem?}
use Rattle.crossbeam_utils.specs.Register.{Admits, Turns, TurnsAt}
use Rattle.atomic_table.proofs.Lists.{at_set, at_snoc}
use Rattle.dual_versions.specs.declared.table.Table.{Table}
use Rattle.dual_versions.specs.declared.rule.View.{View}
use Rattle.dual_versions.specs.Tables.{Entries}
use Rattle.dual_versions.specs.Boards.{Begins, saturated}
use Rattle.dual_versions.specs.Rows.{shown_entries}
use Rattle.dual_versions.specs.Views.{Fits, IsKept, newcomer, tables_if, tables_of, Shown, Entered}

off : false ≡ true → ⊥
off e = true≢false (sym e)

longer : (seen log more : List Entries) → Begins seen log → Begins seen (log ++ more)
longer seen log more b = (b.0 ++ more, ap (λ l. l ++ more) b.1 ∙ append_assoc seen b.0 more)

fits_newcomer : (log : List Entries) (number writer seat : ℕ) → Fits log number writer seat newcomer
fits_newcomer log number writer seat = record { seen = (log, refl); whole = λ w. absurd (off w) }

fits_set : (log : List Entries) (number writer : ℕ) (views : List View) (by : ℕ) (w : View) → ((j : ℕ) (u : View) → j ≢ by → get_elem? views j ≡ some u → Fits log number writer j u)
    → Fits log number writer by w → (j : ℕ) (u : View) → get_elem? (set views by w) j ≡ some u → Fits log number writer j u
fits_set log number writer views by w others mine j u e =
    ⊎_elim
    (λ (x : (j ≡ by) × (w ≡ u)). subst (λ (y : ℕ × View). Fits log number writer y.0 y.1) (λ i. (sym x.0 i, x.1 i)) mine)
    (λ (x : (j ≢ by) × (get_elem? views j ≡ some u)). others j u x.0 x.1)
    (at_set views by j w u e)

-- a first table and one newcomer keep the rule
pub begins : (x : Table) → x.number ≡ 0 → IsKept x (newcomer ∷ [])
begins x none = record { before = []; writer = 0; number = none; seats = one }
  where
    one : (seat : ℕ) (v : View) → get_elem? (newcomer ∷ []) seat ≡ some v → Fits (shown_entries x.rows.items ∷ []) x.number 0 seat v
    one zero v e = subst (Fits (shown_entries x.rows.items ∷ []) x.number 0 0) (some-injective _ _ e) (fits_newcomer (shown_entries x.rows.items ∷ []) x.number 0 0)
    one (suc seat) v e = absurd (some-ne-none v (sym e))

-- a newcomer may join, and the rule is kept
pub admits : Admits IsKept newcomer
admits x views h = record {
  before = h.before;
  writer = h.writer;
  number = h.number;
  seats = λ j u e. ⊎_elim
      (λ was. h.seats j u was)
      (λ (same : newcomer ≡ u). subst (Fits (h.before ++ shown_entries x.rows.items ∷ []) x.number h.writer j) same (fits_newcomer (h.before ++ shown_entries x.rows.items ∷ []) x.number h.writer j))
      (at_snoc views newcomer u j e);
}

-- a reader that enters sees the newest table
pub enters : (seat : ℕ) (v : View) → v.writes ≡ false → Turns IsKept seat v (λ x. x) Entered
enters seat v idle x views h at =
    let log = h.before ++ shown_entries x.rows.items ∷ [] in
    let mine = h.seats seat v at in
    let w : View = record { seen = log; writes = false } in (
      w,
      record {
        before = h.before;
        writer = h.writer;
        number = h.number;
        seats = fits_set log x.number h.writer views seat w (λ j u apart e. h.seats j u e) (record { seen = ([], sym (append-nil log)); whole = λ c. absurd (off c) });
      },
      record { before = h.before; all = refl; number = h.number; later = mine.seen },
    )

-- where nobody has shown a table, there is one
alone : (before : List Entries) (now : Entries) → length before ≡ 0 → now ∷ [] ≡ before ++ now ∷ []
alone [] now none = refl
alone (t ∷ before) now none = absurd (omega arith)

known : (v : View) (x : Table) (before : List Entries) (writer seat : ℕ) → (v.writes ≡ false → x.number ≡ 0) → x.number ≡ saturated (length before) → Fits (before ++ shown_entries x.rows.items ∷ []) x.number writer seat v → (b : Bool) → v.writes ≡ b
    → tables_if b v.seen (shown_entries x.rows.items) ≡ before ++ shown_entries x.rows.items ∷ []
known v x before writer seat fresh number mine true is = (mine.whole is).2
known v x before writer seat fresh number mine false is = let none = fresh is in alone before (shown_entries x.rows.items) (omega arith)

-- no other is the writer
other_is_not : (v : View) (x : Table) (writer seat j : ℕ) (log : List Entries) (u : View) → (v.writes ≡ false → x.number ≡ 0) → Fits log x.number writer seat v → Fits log x.number writer j u → j ≢ seat → u.writes ≡ true → (b : Bool) → v.writes ≡ b → ⊥
other_is_not v x writer seat j log u fresh mine theirs apart writes true is = apart ((theirs.whole writes).1 ∙ sym (mine.whole is).1)
other_is_not v x writer seat j log u fresh mine theirs apart writes false is = let none = fresh is in let some' = (theirs.whole writes).0 in absurd (omega arith)

-- a writer that shows the next table adds it to the history
pub shows : (seat : ℕ) (v : View) (x y : Table) → (v.writes ≡ false → x.number ≡ 0) → y.number ≡ saturated (x.number + 1) → TurnsAt IsKept seat v x y Shown
shows seat v x y fresh next views h at =
    let log = h.before ++ shown_entries x.rows.items ∷ [] in
    let now = shown_entries y.rows.items in
    let mine = h.seats seat v at in
    let same : tables_of v x ≡ log = known v x h.before h.writer seat fresh h.number mine v.writes refl in
    let w : View = record { seen = tables_of v x ++ now ∷ []; writes = true } in (
      w,
      record {
        before = log;
        writer = seat;
        number = let n = h.number in omega (arith, length-append h.before (shown_entries x.rows.items ∷ []));
        seats = fits_set (log ++ now ∷ []) y.number seat views seat w
            (λ j u apart e.
            let f = h.seats j u e in
            record {
              seen = longer u.seen log (now ∷ []) f.seen;
              whole = λ writes. absurd (other_is_not v x h.writer seat j log u fresh mine f apart writes v.writes refl);
            })
            (record { seen = ([], ap (λ l. l ++ now ∷ []) (sym same) ∙ sym (append-nil (tables_of v x ++ now ∷ []))); whole = λ c. (omega arith, refl, ap (λ l. l ++ now ∷ []) same) });
      },
      refl,
    )
