-- What is pending, and the table that it makes.
use Rattle.std.proofs.Common.{◌≡◌, ℕ, ◌+◌, ◌-◌, ◌<◌, List, [], ◌∷◌, ◌++◌, length, map, fold, refl, ap, sym, subst, ◌∙◌, arith}
use Rattle.dual_versions.specs.declared.row.Row.{Row}
use Rattle.dual_versions.specs.declared.table.Put.{Put}
use Rattle.dual_versions.specs.Tables.{Entries, after, last_of}
use Rattle.dual_versions.specs.Boards.{saturated}
use Rattle.dual_versions.specs.Rows.{shown_entries, put_row, taken, pair_of, HaveRoom}
use Rattle.dual_versions.specs.Views.{IsPut, ArePuts}
use Rattle.dual_versions.proofs.RowLists.{length-put_row, put_row_room, put_row_shown}

-- one put more with the next table's number
pub puts_more : (slots prices number : ℕ) (ps : List Put) (p : Put) → ArePuts slots prices number ps → IsPut slots prices number p → ArePuts slots prices number (ps ++ p ∷ [])
puts_more slots prices number [] p are is = (is, tt)
puts_more slots prices number (q ∷ ps) p are is = (are.0, puts_more slots prices number ps p are.1 is)

-- one put more, as the pair of its slot and entry
pub pairs_more : (ps : List Put) (p : Put) → map pair_of (ps ++ p ∷ []) ≡ map pair_of ps ++ pair_of p ∷ []
pairs_more [] p = refl
pairs_more (q ∷ ps) p = ap (λ qs. pair_of q ∷ qs) (pairs_more ps p)

-- the newest table is the one added last
pub last_of_more : (ts : List Entries) (t : Entries) → last_of (ts ++ t ∷ []) ≡ t
last_of_more [] t = refl
last_of_more (u ∷ []) t = refl
last_of_more (u ∷ v ∷ ts) t = last_of_more (v ∷ ts) t

-- rows after all puts
pub record IsAfter (prices number : ℕ) (rows : List Row) (ps : List Put) (s : ℕ × List Row) : Type 0 where
  pub size : length s.1 ≡ length rows
  pub room : HaveRoom prices s.1
  pub shown : shown_entries s.1 ≡ after (shown_entries rows) (map pair_of ps)

-- rows that take in all puts show the table that the puts make
pub folded : (prices number n : ℕ) (rows : List Row) (ps : List Put) → HaveRoom prices rows → ArePuts (length rows) prices number ps → IsAfter prices number rows ps (fold taken (n, rows) ps)
folded prices number n rows [] room are = record { size = refl; room = room; shown = refl }
folded prices number n rows (p ∷ ps) room are =
    let rows' = put_row rows p.slot p.what in
    let same = length-put_row rows p.slot p.what in
    let rest = folded prices number p.number rows' ps (put_row_room prices rows p.slot p.what room are.0.1) (subst (λ k. ArePuts k prices number ps) (sym same) are.1) in
    record {
      size = rest.size ∙ same;
      room = rest.room;
      shown = rest.shown ∙ ap (λ t. after t (map pair_of ps)) (put_row_shown prices rows p.slot p.what room are.0.0 are.0.1);
    }

-- rows that take in puts have the next number
pub folded_number : (slots prices number n : ℕ) (rows : List Row) (ps : List Put) → 0 < length ps → ArePuts slots prices number ps → (fold taken (n, rows) ps).0 ≡ saturated (number + 1)
folded_number slots prices number n rows [] some' are = absurd (omega arith)
folded_number slots prices number n rows (p ∷ []) some' are = are.0.2
folded_number slots prices number n rows (p ∷ q ∷ ps) some' are = folded_number slots prices number p.number (put_row rows p.slot p.what) (q ∷ ps) (omega arith) are.1
