-- Which demands of a round have no length.
use Rattle.std.proofs.Common.{◌≡◌, ℕ, suc, ◌+◌, ◌<◌, ◌≤◌, ◌⊎◌, inl, inr, true, false, List, [], ◌∷◌, length, set, Option, Some, None, refl, ap, arith}
use Rattle.std.proofs.lemmas.List.Sums.{sum_by-cons, sum_by-set}
use Rattle.std.proofs.lemmas.List.{get_or-set_same, get_or-set_other, length-set}
use Rattle.bound_assembly.specs.Rounds.{length_at, HasLength, gap_of, left_in, IsFirstLeft}
use Rattle.bound_assembly.specs.Places.{AreFullBefore, IsNextLeft, AreKept}

either_way : (x y : ℕ) → (x ≤ y) ⊎ (y < x)
either_way x y = grind arith

-- where each demand has a length, none is left
pub left-none : (lengths : List (Option ℕ)) → ((j : ℕ) → j < length lengths → HasLength lengths j) → left_in lengths ≡ 0
left-none [] full = refl
left-none (None ∷ lengths) full = absurd (let bad : false ≡ true = full 0 (omega arith) in cc)
left-none (Some price ∷ lengths) full =
    omega (arith, sum_by-cons gap_of (Some price) lengths, left-none lengths (λ j before. full (suc j) (omega arith)))

-- a demand without a length is left
pub left-some : (lengths : List (Option ℕ)) (k : ℕ) → k < length lengths → length_at lengths k ≡ None → 0 < left_in lengths
left-some lengths k within none =
    let change = sum_by-set gap_of lengths k (Some 0) None within in
    let gap : gap_of (length_at lengths k) ≡ 1 = ap gap_of none in
    omega (arith, change, gap)

-- where some are left, the place kept is that of the first
pub kept-first : (lengths : List (Option ℕ)) (left first : ℕ) → AreKept lengths left first → 0 < left → IsFirstLeft lengths first
kept-first lengths left first kept some =
    elim (either_way (length lengths) first) [
      | inl all ↦ absurd (omega (arith, left-none lengths (λ j below. kept.next.full.before j (omega arith)), kept.count))
      | inr within ↦ record { within = within; without = kept.next.here within; before = kept.next.full.before }
    ]

-- each demand has a length where none is left
pub left_none-full : (lengths : List (Option ℕ)) (k : ℕ) → left_in lengths ≡ 0 → k < length lengths → HasLength lengths k
left_none-full lengths k none within = by_cases (length_at lengths k) refl
  where
    by_cases : (found : Option ℕ) → length_at lengths k ≡ found → HasLength lengths k
    by_cases None is = absurd (omega (arith, left-some lengths k within is))
    by_cases (Some price) is = rw is refl

-- one demand further
pub full_next : (lengths : List (Option ℕ)) (place : ℕ) → AreFullBefore lengths place → place < length lengths → HasLength lengths place → AreFullBefore lengths (place + 1)
full_next lengths place full within here =
    record {
      within = omega arith;
      before = λ j below. elim (either_way place j) [
        | inl last ↦ (let is : j ≡ place = omega arith in rw is here)
        | inr before ↦ full.before j before
      ];
    }

-- a demand without a length behind demands that have theirs is the next one left
pub next_here : (lengths : List (Option ℕ)) (place : ℕ) → AreFullBefore lengths place → length_at lengths place ≡ None → IsNextLeft lengths place
next_here lengths place full none = record { full = full; here = λ within. none }

-- where all demands have a length, none is left
pub next_end : (lengths : List (Option ℕ)) (place : ℕ) → AreFullBefore lengths place → length lengths ≤ place → IsNextLeft lengths place
next_end lengths place full all = record { full = full; here = λ within. absurd (omega arith) }

-- a length that is put leaves one demand fewer
pub left-put : (lengths : List (Option ℕ)) (k price : ℕ) → k < length lengths → length_at lengths k ≡ None → left_in (set lengths k (Some price)) + 1 ≡ left_in lengths
left-put lengths k price within none =
    let change = sum_by-set gap_of lengths k (Some price) None within in
    let gap : gap_of (length_at lengths k) ≡ 1 = ap gap_of none in
    omega (arith, change, gap)

-- a length that is put takes none away
pub full_put : (lengths : List (Option ℕ)) (k price place : ℕ) → k < length lengths → AreFullBefore lengths place → AreFullBefore (set lengths k (Some price)) place
full_put lengths k price place within full =
    record {
      within = omega (arith, length-set lengths k (Some price), full.within);
      before = λ j below. by_cases j below (either_way k j) (either_way j k);
    }
  where
    by_cases : (j : ℕ) → j < place → (k ≤ j) ⊎ (j < k) → (j ≤ k) ⊎ (k < j) → HasLength (set lengths k (Some price)) j
    by_cases j below (inr less) more = rw (get_or-set_other {A = Option ℕ} lengths k j (Some price) None (omega arith)) (full.before j below)
    by_cases j below (inl most) (inr more) = rw (get_or-set_other {A = Option ℕ} lengths k j (Some price) None (omega arith)) (full.before j below)
    by_cases j below (inl most) (inl least) =
        (let is : j ≡ k = omega arith in rw (is, get_or-set_same {A = Option ℕ} lengths k (Some price) None within) refl)
