-- What rows forbid, arc by arc, and what becomes of it when a bit is set.
use Rattle.std.proofs.Common.{◌≡◌, ◌≢◌, ℕ, ◌-◌, ◌*◌, ◌/◌, ◌%◌, ◌^◌, ◌<◌, ◌≤◌, inl, inr, Bool, true, false, ◌==◌, ◌||◌, List, [], ◌∷◌, length, get_or, set, replicate, slice_index, min, nat_lt, bit_or, refl, sym, ap, ◌∙◌, w64, arith}
use Rattle.std.proofs.Math.Path.{fun_ext}
use Rattle.std.specs.Int.{bit_at}
use Rattle.std.proofs.lemmas.Bool.{lt-ltb, le-ltb, eq-eqb, ne_eqb, and_left, and_right, and_from, or_left, or_right, cases_lt, cases_eq}
use Rattle.std.proofs.lemmas.List.{get_or-set_same, get_or-set_other, get_or-replicate, get_or_read, get_or_past, length-replicate}
use Rattle.std.proofs.lemmas.List.Sums.{sum_by-le}
use Rattle.std.proofs.lemmas.Nat.{same_from_place, mod_below, mul-add-lt}
use Rattle.std.proofs.lemmas.Nat.Bits.{bit_at_set_same, bit_at_set_other}
use Rattle.std.proofs.Math.Nat.{mul_comm, min-le_right}
use Rattle.plan_base.specs.declared.ids.ArcId.{ArcId}
use Rattle.plan_base.specs.declared.ids.DemandId.{DemandId}
use Rattle.arc_restrict.specs.Restrictions.{Forbidden, is_among, none_forbidden, with_forbidden}
use Rattle.arc_restrict.specs.Rows.{Rows, row_len, place_of, forbids, IsKept}

-- the place of the word with an arc's bit in the row of a demand that has one
abbrev pub word_of : Rows → ℕ → ArcId → ℕ
word_of rows k a = place_of rows.arcs (slice_index rows.row_of k - 1) a

-- whether the arc's bit is set in the row of a demand that has one
abbrev pub is_set : Rows → ℕ → ArcId → Bool
is_set rows k a = bit_at (slice_index rows.words (word_of rows k a)) (a.0 % 64) == 1

-- to a demand without a row no arc is forbidden
pub forbids-without_row : (rows : Rows) (k : ℕ) (a : ArcId) → slice_index rows.row_of k ≡ 0 → forbids rows k a ≡ false
unfolding forbids
forbids-without_row rows k a none =
    let first : nat_lt 0 (slice_index rows.row_of k) ≡ false = rw none refl in
    and_left _ _ first

-- arcs beyond the instance are not forbidden
pub forbids-past_arcs : (rows : Rows) (k : ℕ) (a : ArcId) → rows.arcs ≤ a.0 → forbids rows k a ≡ false
unfolding forbids
forbids-past_arcs rows k a h = and_right _ _ (and_left _ _ (le-ltb a.0 rows.arcs h))

-- to a demand with a row an arc is forbidden exactly where its bit is set
pub forbids-within : (rows : Rows) (k : ℕ) (a : ArcId) → 0 < slice_index rows.row_of k → a.0 < rows.arcs → forbids rows k a ≡ is_set rows k a
unfolding forbids
forbids-within rows k a has arc =
    let first : nat_lt 0 (slice_index rows.row_of k) ≡ true = lt-ltb _ _ has in
    let second : nat_lt a.0 rows.arcs ≡ true = lt-ltb _ _ arc in
    rw (first, second) refl

-- a demand that there is not has no row
pub without_row-past : (rows : Rows) (used room k : ℕ) → IsKept rows used room → rows.demands ≤ k → slice_index rows.row_of k ≡ 0
without_row-past rows used room k kept past = get_or_past rows.row_of k 0 (omega (arith, kept.all_demands, past))

-- rows without a word forbid nothing
pub forbids-no_rows : (rows : Rows) (n : ℕ) → rows.row_of ≡ replicate n 0 → forbids rows ≡ none_forbidden
forbids-no_rows rows n is = fun_ext (λ k. fun_ext (λ a. forbids-without_row rows k a (ap (λ (ns : List ℕ). get_or ns k 0) is ∙ zero_at k)))
  where
    zero_at : (i : ℕ) → get_or {A = ℕ} (replicate n 0) i 0 ≡ 0
    zero_at i = elim (cases_lt i n) [ inl within ↦ get_or-replicate n i 0 0 within | inr past ↦ get_or_past (replicate n 0) i 0 (omega (arith, length-replicate {A = ℕ} n 0)) ]

-- an arc's word is in its demand's row
pub in_row : (arcs : ℕ) (a : ArcId) → a.0 < arcs → a.0 / 64 < row_len arcs
in_row arcs a h = omega arith

-- the rows with one bit set
abbrev pub with_bit : Rows → ℕ → ArcId → Rows
with_bit rows k a = record rows { words = set rows.words (word_of rows k a) (bit_or (get_or rows.words (word_of rows k a) 0) (1 * 2 ^ (a.0 % 64) % 2 ^ 64)) }

-- each arc is among the one arc exactly where it is that arc
is_among-one : (a b : ArcId) → is_among (a ∷ []) b ≡ (a.0 == b.0)
is_among-one a b = grind arith

-- another arc of the demand, or an arc of another demand, is forbidden as before
pub kept_by_others : (r : Forbidden) (id : DemandId) (a : ArcId) (k : ℕ) (b : ArcId) → ((k ≡ id.0) × (a.0 ≡ b.0) → ⊥) → with_forbidden r id (a ∷ []) k b ≡ r k b
kept_by_others r id a k b other =
    elim (cases_eq k id.0) [
      | inl here ↦ (let apart : (a.0 == b.0) ≡ false = ne_eqb _ _ (λ same. other (here, same)) in grind (arith, is_among-one))
      | inr elsewhere ↦ (let apart : (k == id.0) ≡ false = ne_eqb _ _ elsewhere in rw apart (or_false (r k b)))
    ]
  where
    or_false : (x : Bool) → (x || false) ≡ x
    or_false true = refl
    or_false false = refl

module _ (rows : Rows) (used room : ℕ) (kept : IsKept rows used room) where
  -- no number of a row is above the count of demands
  pub row_of-le : (k : ℕ) → slice_index rows.row_of k ≤ rows.demands
  row_of-le k = omega (arith, sum_by-le (λ (number : ℕ). min number 1) 1 rows.row_of (λ i d within. min-le_right _ _), kept.within k, kept.counted, kept.all_demands)

  -- the word of an arc's bit is among the words
  pub word_within : (k : ℕ) (a : ArcId) → 0 < slice_index rows.row_of k → a.0 < rows.arcs → word_of rows k a < length rows.words
  word_within k a has arc =
      let before : slice_index rows.row_of k - 1 < used = omega (arith, kept.within k, has) in
      omega (arith, mul-add-lt (slice_index rows.row_of k - 1) (row_len rows.arcs) (a.0 / 64) used before (in_row rows.arcs a arc), kept.whole, mul_comm used (row_len rows.arcs))

  -- two arcs whose bits are in one word are of one demand, and their words are the same ones of its row
  one_word : (k j : ℕ) (a b : ArcId) → 0 < slice_index rows.row_of k → 0 < slice_index rows.row_of j → a.0 < rows.arcs → b.0 < rows.arcs → word_of rows j b ≡ word_of rows k a → (j ≡ k) × (b.0 / 64 ≡ a.0 / 64)
  one_word k j a b one other first second same =
      let places = same_from_place (slice_index rows.row_of j - 1) (b.0 / 64) (slice_index rows.row_of k - 1) (a.0 / 64) (row_len rows.arcs) (in_row rows.arcs b second) (in_row rows.arcs a first) same in
      (kept.apart j k other (omega (arith, places.0, one, other)), places.1)

  -- the bit itself is set
  set_itself : (k : ℕ) (a : ArcId) → word_of rows k a < length rows.words → is_set (with_bit rows k a) k a ≡ true
  set_itself k a within =
      let place = word_of rows k a in
      let bit = a.0 % 64 in
      let below : bit < 64 = mod_below a.0 64 (omega arith) in
      let word = bit_or (get_or rows.words place 0) (1 * 2 ^ bit % 2 ^ 64) in
      let is : get_or (set rows.words place word) place 0 ≡ word = get_or-set_same rows.words place word 0 within in
      eq-eqb _ _ (ap (λ (w : ℕ). bit_at w bit) is ∙ bit_at_set_same w64 (get_or rows.words place 0) bit below)

  -- the bit of another arc, or of another demand, stays
  set_other : (k j : ℕ) (a b : ArcId) → 0 < slice_index rows.row_of k → 0 < slice_index rows.row_of j → a.0 < rows.arcs → b.0 < rows.arcs → ((j ≡ k) × (a.0 ≡ b.0) → ⊥) → is_set (with_bit rows k a) j b ≡ is_set rows j b
  set_other k j a b one two first second other =
      let place = word_of rows k a in
      let there = word_of rows j b in
      let within : place < length rows.words = word_within k a one first in
      let old = get_or rows.words place 0 in
      let word = bit_or old (1 * 2 ^ (a.0 % 64) % 2 ^ 64) in
      let below : a.0 % 64 < 64 = mod_below a.0 64 (omega arith) in
      ap (λ (w : ℕ). w == 1) (elim (cases_eq there place) [
        | inl same ↦ (
            let words = one_word k j a b one two first second same in
            let apart : b.0 % 64 ≢ a.0 % 64 = λ bits. other (words.0, omega (arith, words.1, bits)) in
            let is : get_or (set rows.words place word) there 0 ≡ word = ap (λ (i : ℕ). get_or (set rows.words place word) i 0) same ∙ get_or-set_same rows.words place word 0 within in
            ap (λ (w : ℕ). bit_at w (b.0 % 64)) is ∙ bit_at_set_other w64 old (a.0 % 64) below (b.0 % 64) apart ∙ ap (λ (i : ℕ). bit_at (get_or rows.words i 0) (b.0 % 64)) (sym same))
        | inr apart ↦ ap (λ (w : ℕ). bit_at w (b.0 % 64)) (get_or-set_other rows.words place there word 0 apart)
      ])

  -- the arc of a number
  abbrev ArcId_of : ℕ → ArcId
  ArcId_of n = record { 0 = n }

  -- with a bit set, the rows also forbid its arc to its demand, and nothing else more
  pub forbids-with_bit : (id : DemandId) (a : ArcId) → 0 < slice_index rows.row_of id.0 → a.0 < rows.arcs → forbids (with_bit rows id.0 a) ≡ with_forbidden (forbids rows) id (a ∷ [])
  forbids-with_bit id a has arc = fun_ext (λ j. fun_ext (λ b. at j b))
    where
      itself : (j : ℕ) (b : ArcId) → j ≡ id.0 → a.0 ≡ b.0 → forbids (with_bit rows id.0 a) j b ≡ with_forbidden (forbids rows) id (a ∷ []) j b
      itself j b here same =
          let is_b : a ≡ b = ap (λ (n : ℕ). ArcId_of n) same in
          let set_is : forbids (with_bit rows id.0 a) id.0 a ≡ true = forbids-within (with_bit rows id.0 a) id.0 a has arc ∙ set_itself id.0 a (word_within id.0 a has arc) in
          let among : with_forbidden (forbids rows) id (a ∷ []) id.0 a ≡ true = or_right _ _ (and_from _ _ (eq-eqb id.0 id.0 refl) (or_left _ _ (eq-eqb a.0 a.0 refl))) in
          ap (λ (i : ℕ). forbids (with_bit rows id.0 a) i b) here ∙ ap (forbids (with_bit rows id.0 a) id.0) (sym is_b) ∙ set_is
          ∙ sym (ap (λ (i : ℕ). with_forbidden (forbids rows) id (a ∷ []) i b) here ∙ ap (with_forbidden (forbids rows) id (a ∷ []) id.0) (sym is_b) ∙ among)

      elsewhere : (j : ℕ) (b : ArcId) → ((j ≡ id.0) × (a.0 ≡ b.0) → ⊥) → forbids (with_bit rows id.0 a) j b ≡ forbids rows j b
      elsewhere j b other = elim (cases_eq (slice_index rows.row_of j) 0) [
        | inl none ↦ forbids-without_row (with_bit rows id.0 a) j b none ∙ sym (forbids-without_row rows j b none)
        | inr some ↦ elim (cases_lt b.0 rows.arcs) [
          | inr past ↦ forbids-past_arcs (with_bit rows id.0 a) j b past ∙ sym (forbids-past_arcs rows j b past)
          | inl there ↦ (
              let here : 0 < slice_index rows.row_of j = omega (arith, some) in
              forbids-within (with_bit rows id.0 a) j b here there ∙ set_other id.0 j a b has here arc there other ∙ sym (forbids-within rows j b here there))
        ]
      ]

      at : (j : ℕ) (b : ArcId) → forbids (with_bit rows id.0 a) j b ≡ with_forbidden (forbids rows) id (a ∷ []) j b
      at j b = elim (cases_eq j id.0) [
        | inr apart ↦ elsewhere j b (λ both. apart both.0) ∙ sym (kept_by_others (forbids rows) id a j b (λ both. apart both.0))
        | inl here ↦ elim (cases_eq a.0 b.0) [
          | inr apart ↦ elsewhere j b (λ both. apart both.1) ∙ sym (kept_by_others (forbids rows) id a j b (λ both. apart both.1))
          | inl same ↦ itself j b here same
        ]
      ]

-- the same as a write leaves it: the word that was read there, with one bit more
pub forbids-written : (rows : Rows) (used room : ℕ) (id : DemandId) (a : ArcId) (place old : ℕ) → IsKept rows used room → 0 < slice_index rows.row_of id.0 → a.0 < rows.arcs → place ≡ word_of rows id.0 a → old ≡ get_or rows.words place old
    → forbids (record rows { words = set rows.words place (bit_or old (1 * 2 ^ (a.0 % 64) % 2 ^ 64)) }) ≡ with_forbidden (forbids rows) id (a ∷ [])
forbids-written rows used room id a place old kept has arc is read =
    let within : place < length rows.words = rw is (word_within rows used room kept id.0 a has arc) in
    let old_is : old ≡ get_or rows.words place 0 = get_or_read rows.words place old within read 0 in
    let written : ℕ → ℕ → Rows = λ i w. record rows { words = set rows.words i (bit_or w (1 * 2 ^ (a.0 % 64) % 2 ^ 64)) } in
    ap (λ (w : ℕ). forbids (written place w)) old_is ∙ ap (λ (i : ℕ). forbids (written i (get_or rows.words i 0))) is ∙ forbids-with_bit rows used room kept id a has arc
