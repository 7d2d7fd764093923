-- Rows that take entries in.
use Rattle.std.proofs.Common.{◌≡◌, ℕ, zero, suc, ◌<◌, ◌≤◌, List, [], ◌∷◌, length, set, get_or, Some, None, refl, ap, ◌∙◌, arith, true}
use Rattle.std.specs.Prelude.{slice_index_or, replicate, ◌+◌, ◌++◌, ◌==◌, if◌then◌else◌}
use Rattle.std.proofs.lemmas.Bool.Decides.{nat_tests}
use Rattle.dual_versions.specs.declared.published.Published.{Published}
use Rattle.dual_versions.specs.declared.row.Row.{Row}
use Rattle.dual_versions.specs.Rows.{row_entry, shown_entries, filled, put_row, HaveRoom, blank}
use Rattle.plan_base.specs.declared.ids.BranchId.{BranchId}
use Rattle.std.proofs.lemmas.List.{replicate-append-replicate, length-replicate}

-- writing the row of a slot puts its entry there
pub put_row_here : (rows : List Row) (k : ℕ) (what : Published) (r s : Row) → k < length rows → r ≡ get_or rows k r → s ≡ filled r what → set rows k s ≡ put_row rows k what
put_row_here [] k what r s in' at is = absurd (omega arith)
put_row_here (x ∷ rows) zero what r s in' at is = ap (λ y. y ∷ rows) (is ∙ ap (λ y. filled y what) at)
put_row_here (x ∷ rows) (suc k) what r s in' at is = ap (λ ys. x ∷ ys) (put_row_here rows k what r s (omega arith) at is)

-- a put to no slot changes nothing
pub put_row_past : (rows : List Row) (k : ℕ) (what : Published) → length rows ≤ k → put_row rows k what ≡ rows
put_row_past [] k what out = refl
put_row_past (x ∷ rows) zero what out = absurd (omega arith)
put_row_past (x ∷ rows) (suc k) what out = ap (λ ys. x ∷ ys) (put_row_past rows k what (omega arith))

-- a row shows the entry of its slot
pub entry_here : (rows : List Row) (k : ℕ) (r : Row) → k < length rows → r ≡ get_or rows k r → row_entry r ≡ slice_index_or (shown_entries rows) k None
entry_here [] k r in' at = absurd (omega arith)
entry_here (x ∷ rows) zero r in' at = ap row_entry at
entry_here (x ∷ rows) (suc k) r in' at = entry_here rows k r (omega arith) at

-- no slot shows no entry
pub entry_past : (rows : List Row) (k : ℕ) → length rows ≤ k → None ≡ slice_index_or (shown_entries rows) k None
entry_past [] k out = refl
entry_past (x ∷ rows) zero out = absurd (omega arith)
entry_past (x ∷ rows) (suc k) out = entry_past rows k (omega arith)

-- a put keeps the count of rows
pub length-put_row : (rows : List Row) (k : ℕ) (what : Published) → length (put_row rows k what) ≡ length rows
length-put_row [] k what = refl
length-put_row (x ∷ rows) zero what = refl
length-put_row (x ∷ rows) (suc k) what = ap suc (length-put_row rows k what)

filled_room : (n : ℕ) (r : Row) (what : Published) → length r.what.prices ≡ n → length what.prices ≡ n → filled r what ≡ record { shown = true; what = what }
filled_room n r what room fits = let same : (length what.prices == length r.what.prices) ≡ true = grind (arith, nat_tests) in ap (λ b. if b then record { shown = true; what = what } else r) same

-- a put keeps each row as long as the prices
pub put_row_room : (n : ℕ) (rows : List Row) (k : ℕ) (what : Published) → HaveRoom n rows → length what.prices ≡ n → HaveRoom n (put_row rows k what)
put_row_room n [] k what room fits = tt
put_row_room n (x ∷ rows) zero what room fits = (ap (λ (y : Row). length y.what.prices) (filled_room n x what room.0 fits) ∙ fits, room.1)
put_row_room n (x ∷ rows) (suc k) what room fits = (room.0, put_row_room n rows k what room.1 fits)

-- a put shows the entry in its slot
pub put_row_shown : (n : ℕ) (rows : List Row) (k : ℕ) (what : Published) → HaveRoom n rows → k < length rows → length what.prices ≡ n → shown_entries (put_row rows k what) ≡ set (shown_entries rows) k (Some what)
put_row_shown n [] k what room in' fits = absurd (omega arith)
put_row_shown n (x ∷ rows) zero what room in' fits = ap (λ y. row_entry y ∷ shown_entries rows) (filled_room n x what room.0 fits)
put_row_shown n (x ∷ rows) (suc k) what room in' fits = ap (λ ys. row_entry x ∷ ys) (put_row_shown n rows k what room.1 (omega arith) fits)

-- one row more of the length of the prices
pub room_more : (n : ℕ) (rows : List Row) (r : Row) → HaveRoom n rows → length r.what.prices ≡ n → HaveRoom n (rows ++ r ∷ [])
room_more n [] r room fits = (fits, tt)
room_more n (x ∷ rows) r room fits = (room.0, room_more n rows r room.1 fits)

-- one blank row more
pub rows_more : (k : ℕ) (r : Row) → replicate k r ++ r ∷ [] ≡ replicate (k + 1) r
rows_more k r = replicate-append-replicate k 1 r

-- blank rows are as long as the prices
pub rooms : (k n : ℕ) (node : BranchId) → HaveRoom n (replicate k (blank node n))
rooms zero n node = tt
rooms (suc k) n node = (length-replicate n 0, rooms k n node)

-- blank rows show no entries
pub blanks_shown : (k n : ℕ) (node : BranchId) → shown_entries (replicate k (blank node n)) ≡ replicate k None
blanks_shown zero n node = refl
blanks_shown (suc k) n node = ap (λ ts. None ∷ ts) (blanks_shown k n node)
