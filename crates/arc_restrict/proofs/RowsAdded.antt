-- What becomes of rows when a demand is given one.
use Rattle.std.proofs.Common.{◌≡◌, ◌≢◌, ℕ, ◌+◌, ◌-◌, ◌*◌, ◌/◌, ◌%◌, ◌<◌, ◌≤◌, inl, inr, false, ◌==◌, ◌++◌, List, length, get_or, set, take, replicate, slice_index, min, refl, sym, ap, ◌∙◌, arith}
use Rattle.std.proofs.Math.Path.{fun_ext}
use Rattle.std.specs.Int.{bit_at}
use Rattle.std.proofs.lemmas.Bool.{cases_lt, cases_eq}
use Rattle.std.proofs.lemmas.List.{get_or-set_same, get_or-set_other, get_or-replicate, take_all, get_or_append_left, get_or-append_right, length-set}
use Rattle.std.proofs.lemmas.List.Sums.{sum_by-set, sum_by-le}
use Rattle.std.proofs.Math.Nat.{min-le_right, mul-le-mul_right}
use Rattle.std.proofs.lemmas.Nat.Bits.{bit_at-zero}
use Rattle.plan_base.specs.declared.ids.ArcId.{ArcId}
use Rattle.arc_restrict.specs.Rows.{Rows, row_len, place_of, forbids, with_rows, IsKept}
use Rattle.arc_restrict.proofs.RowLaws.{word_of, is_set, in_row, word_within, forbids-without_row, forbids-past_arcs, forbids-within}

-- the rows with one more, which forbids nothing, of this demand
abbrev pub with_row : Rows → ℕ → ℕ → Rows
with_row rows used k = record rows { row_of = set rows.row_of k (used + 1); words = rows.words ++ replicate (row_len rows.arcs) 0 }

-- the words of one row more, as a resize leaves them
pub resized : (words : List ℕ) (len more : ℕ) → len ≡ length words → take (len + more) words ++ replicate (len + more - len) 0 ≡ words ++ replicate more 0
resized words len more is =
    let rest : len + more - len ≡ more = omega arith in
    ap (λ (front : List ℕ). front ++ replicate (len + more - len) 0) (take_all (len + more) words (omega (arith, is))) ∙ ap (λ (n : ℕ). words ++ replicate n 0) rest

-- the words behind whole rows are the zeros that were added
zero_behind : (words : List ℕ) (used len i : ℕ) → length words ≡ used * len → i < len → get_or (words ++ replicate len 0) (used * len + i) 0 ≡ 0
zero_behind words used len i whole within =
    let behind : used * len + i - length words ≡ i = omega (arith, whole) in
    get_or-append_right words (replicate len 0) (length words) (used * len + i) 0 refl (omega (arith, whole)) ∙ ap (λ (n : ℕ). get_or (replicate len 0) n 0) behind ∙ get_or-replicate len i 0 0 within

module _ (rows : Rows) (used room : ℕ) (kept : IsKept rows used room) (k : ℕ) (demand : k < rows.demands) (none : slice_index rows.row_of k ≡ 0) where
  in_rows : k < length rows.row_of
  in_rows = omega (arith, kept.all_demands, demand)

  -- one demand more has a row
  one_more : with_rows (set rows.row_of k (used + 1)) ≡ used + 1
  one_more =
      let sums = sum_by-set (λ (number : ℕ). min number 1) rows.row_of k (used + 1) 0 in_rows in
      let old : min (get_or rows.row_of k 0) 1 ≡ 0 = rw none refl in
      let new : min (used + 1) 1 ≡ 1 = omega arith in
      omega (arith, sums, old, new, kept.counted)

  -- not all demands have a row
  pub some_without_row : used < rows.demands
  some_without_row =
      let few = sum_by-le (λ (number : ℕ). min number 1) 1 (set rows.row_of k (used + 1)) (λ i d within. min-le_right _ _) in
      omega (arith, few, one_more, length-set rows.row_of k (used + 1), kept.all_demands)

  -- there is room for the words of one row more
  pub room_for_one : length rows.words + row_len rows.arcs ≤ room
  room_for_one = omega (arith, mul-le-mul_right (row_len rows.arcs) some_without_row, kept.whole, kept.has_room)

  at_itself : slice_index (set rows.row_of k (used + 1)) k ≡ used + 1
  at_itself = get_or-set_same rows.row_of k (used + 1) 0 in_rows

  at_other : (j : ℕ) → j ≢ k → slice_index (set rows.row_of k (used + 1)) j ≡ slice_index rows.row_of j
  at_other j apart = get_or-set_other rows.row_of k j (used + 1) 0 apart

  -- the row of another demand stays
  set_elsewhere : (j : ℕ) (b : ArcId) → j ≢ k → b.0 < rows.arcs → forbids (with_row rows used k) j b ≡ forbids rows j b
  set_elsewhere j b apart arc = elim (cases_eq (slice_index rows.row_of j) 0) [
    | inl empty ↦ forbids-without_row (with_row rows used k) j b (at_other j apart ∙ empty) ∙ sym (forbids-without_row rows j b empty)
    | inr some ↦ (
        let here : 0 < slice_index rows.row_of j = omega (arith, some) in
        let there : 0 < slice_index (set rows.row_of k (used + 1)) j = rw (at_other j apart) here in
        let same : word_of (with_row rows used k) j b ≡ word_of rows j b = ap (λ (n : ℕ). place_of rows.arcs (n - 1) b) (at_other j apart) in
        let word : slice_index (with_row rows used k).words (word_of (with_row rows used k) j b) ≡ slice_index rows.words (word_of rows j b) =
        ap (λ (i : ℕ). get_or (rows.words ++ replicate (row_len rows.arcs) 0) i 0) same ∙ get_or_append_left rows.words (replicate (row_len rows.arcs) 0) 0 (word_of rows j b) (word_within rows used room kept j b here arc) in
        let bit : is_set (with_row rows used k) j b ≡ is_set rows j b = ap (λ (w : ℕ). bit_at w (b.0 % 64) == 1) word in
        forbids-within (with_row rows used k) j b there arc ∙ bit ∙ sym (forbids-within rows j b here arc))
  ]

  -- the new row forbids nothing
  set_here : (b : ArcId) → b.0 < rows.arcs → forbids (with_row rows used k) k b ≡ forbids rows k b
  set_here b arc =
      let has : 0 < slice_index (set rows.row_of k (used + 1)) k = omega (arith, at_itself) in
      let before : used + 1 - 1 ≡ used = omega arith in
      let place : word_of (with_row rows used k) k b ≡ used * row_len rows.arcs + b.0 / 64 = ap (λ (n : ℕ). place_of rows.arcs (n - 1) b) at_itself ∙ ap (λ (n : ℕ). place_of rows.arcs n b) before in
      let word : slice_index (with_row rows used k).words (word_of (with_row rows used k) k b) ≡ 0 = ap (λ (i : ℕ). get_or (rows.words ++ replicate (row_len rows.arcs) 0) i 0) place ∙ zero_behind rows.words used (row_len rows.arcs) (b.0 / 64) kept.whole (in_row rows.arcs b arc) in
      let bit : is_set (with_row rows used k) k b ≡ false = ap (λ (w : ℕ). bit_at w (b.0 % 64) == 1) word ∙ ap (λ (bit : ℕ). bit == 1) (bit_at-zero (b.0 % 64)) in
      forbids-within (with_row rows used k) k b has arc ∙ bit ∙ sym (forbids-without_row rows k b none)

  -- a new row changes nothing of what is forbidden
  forbids-with_row : forbids (with_row rows used k) ≡ forbids rows
  forbids-with_row = fun_ext (λ j. fun_ext (λ b. at j b))
    where
      at : (j : ℕ) (b : ArcId) → forbids (with_row rows used k) j b ≡ forbids rows j b
      at j b = elim (cases_lt b.0 rows.arcs) [
        | inr past ↦ forbids-past_arcs (with_row rows used k) j b past ∙ sym (forbids-past_arcs rows j b past)
        | inl arc ↦ elim (cases_eq j k) [
          | inl here ↦ ap (λ (i : ℕ). forbids (with_row rows used k) i b) here ∙ set_here b arc ∙ ap (λ (i : ℕ). forbids rows i b) (sym here)
          | inr apart ↦ set_elsewhere j b apart arc
        ]
      ]

  -- the same with words that are known to be these
  pub forbids-resized : (words : List ℕ) → words ≡ rows.words ++ replicate (row_len rows.arcs) 0 → forbids (record rows { row_of = set rows.row_of k (used + 1); words = words }) ≡ forbids rows
  forbids-resized words is = ap (λ (ws : List ℕ). forbids (record rows { row_of = set rows.row_of k (used + 1); words = ws })) is ∙ forbids-with_row
