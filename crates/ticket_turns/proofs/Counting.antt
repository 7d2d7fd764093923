-- A history that is no longer than the calls of all callers together has their calls alone.
use Rattle.std.proofs.Common.{◌≡◌, ◌≢◌, ℕ, suc, ◌==◌, ◌+◌, ◌<◌, ◌≤◌, true, false, Bool, List, [], ◌∷◌, ◌++◌, length, sum_by, slice_get, Some, refl, ap, sym, subst, ◌∙◌, arith, if◌then◌else◌, ne_eqb, append-nil, length-append}
use Rattle.std.proofs.lemmas.Bool.{eqb-true}
use Rattle.std.proofs.lemmas.List.Sums.{sum_by-cons}
use mathlib.Core.List.{IsPrefix}
use Rattle.ticket_turns.specs.declared.view.Entry.{Entry}
use Rattle.ticket_turns.specs.Histories.{calls_by, HoldsOfAll}

module _ {C : Type 0} where
  calls_append : (n : ℕ) (xs ys : List (Entry C)) → calls_by n (xs ++ ys) ≡ calls_by n xs ++ calls_by n ys
  calls_append n [] ys = refl
  calls_append n (x ∷ xs) ys = by_case (calls_append n xs ys) (x.by == n)
    where
      by_case : calls_by n (xs ++ ys) ≡ calls_by n xs ++ calls_by n ys → (b : Bool) → (if b then x ∷ calls_by n (xs ++ ys) else calls_by n (xs ++ ys)) ≡ (if b then x ∷ calls_by n xs else calls_by n xs) ++ calls_by n ys
      by_case r true = ap (λ zs. x ∷ zs) r
      by_case r false = r

  -- a caller's calls in a beginning of a history begin its calls in the whole
  pub calls_begin : (n : ℕ) (xs zs : List (Entry C)) → IsPrefix xs zs → IsPrefix (calls_by n xs) (calls_by n zs)
  calls_begin n xs zs p = (calls_by n p.0, sym (calls_append n xs p.0) ∙ ap (calls_by n) p.1)

  -- the calls of all other callers
  abbrev others : ℕ → List (Entry C) → List (Entry C)
  others n [] = []
  others n (e ∷ es) = if e.by == n then others n es else e ∷ others n es

  parted : (n : ℕ) (xs : List (Entry C)) → length (calls_by n xs) + length (others n xs) ≡ length xs
  parted n [] = refl
  parted n (x ∷ xs) = by_case (parted n xs) (x.by == n)
    where
      by_case : length (calls_by n xs) + length (others n xs) ≡ length xs → (b : Bool) → length (if b then x ∷ calls_by n xs else calls_by n xs) + length (if b then others n xs else x ∷ others n xs) ≡ length (x ∷ xs)
      by_case r true = omega arith
      by_case r false = omega arith

  calls_others : (n k : ℕ) (xs : List (Entry C)) → k ≢ n → calls_by k (others n xs) ≡ calls_by k xs
  calls_others n k [] ne = refl
  calls_others n k (x ∷ xs) ne = by_case (calls_others n k xs ne) (x.by == n) refl
    where
      both : calls_by k (others n xs) ≡ calls_by k xs → (c : Bool) → (if c then x ∷ calls_by k (others n xs) else calls_by k (others n xs)) ≡ (if c then x ∷ calls_by k xs else calls_by k xs)
      both r true = ap (λ zs. x ∷ zs) r
      both r false = r

      by_case : calls_by k (others n xs) ≡ calls_by k xs → (b : Bool) → (x.by == n) ≡ b → calls_by k (if b then others n xs else x ∷ others n xs) ≡ (if x.by == k then x ∷ calls_by k xs else calls_by k xs)
      by_case r true e = r ∙ sym (ap (λ c. if c then x ∷ calls_by k xs else calls_by k xs) (ne_eqb x.by k (λ same. ne (sym same ∙ eqb-true x.by n e))))
      by_case r false e = both r (x.by == k)

  module _ (Fact : Entry C → Type 0) where
    of_both : (n : ℕ) (xs : List (Entry C)) → HoldsOfAll Fact (calls_by n xs) → HoldsOfAll Fact (others n xs) → HoldsOfAll Fact xs
    of_both n [] p q = tt
    of_both n (x ∷ xs) p q = by_case (of_both n xs) (x.by == n) p q
      where
        by_case : (HoldsOfAll Fact (calls_by n xs) → HoldsOfAll Fact (others n xs) → HoldsOfAll Fact xs) → (b : Bool) → HoldsOfAll Fact (if b then x ∷ calls_by n xs else calls_by n xs) → HoldsOfAll Fact (if b then others n xs else x ∷ others n xs)
            → Fact x × HoldsOfAll Fact xs
        by_case r true p q = (p.0, r p.1 q)
        by_case r false p q = (q.0, r p q.1)

    nothing_more : (xs rest : List (Entry C)) → length rest ≡ 0 → HoldsOfAll Fact xs → HoldsOfAll Fact (xs ++ rest)
    nothing_more xs [] empty p = subst (HoldsOfAll Fact) (sym (append-nil xs)) p
    nothing_more xs (r ∷ rest) empty p = absurd (omega arith)

    module _ {L : Type 0} (number_in : L → ℕ) (mine_of : L → List (Entry C)) where
      -- each has its place, from a number on, as its number; its calls begin those of this number, and this holds of each of them
      abbrev pub AreCallers : ℕ → List (Entry C) → List L → Type 0
      AreCallers m history xs = (k : ℕ) (x : L) → slice_get xs k ≡ Some x → (number_in x ≡ m + k) × IsPrefix (mine_of x) (calls_by (number_in x) history) × HoldsOfAll Fact (mine_of x)

      -- then it holds of each call of the history
      pub callers_alone : (m : ℕ) (history : List (Entry C)) (xs : List L) → AreCallers m history xs → length history ≤ sum_by (λ x. length (mine_of x)) xs → (sum_by (λ x. length (mine_of x)) xs ≤ length history) × HoldsOfAll Fact history
      callers_alone m [] [] all few = (omega arith, tt)
      callers_alone m (e ∷ es) [] all few = absurd (omega arith)
      callers_alone m history (x ∷ xs) all few =
          let f = all 0 x refl in
          let n = number_in x in
          let sum = sum_by-cons (λ z. length (mine_of z)) x xs in
          let both : length (calls_by n history) + length (others n history) ≡ length history = parted n history in
          let begin : length (mine_of x) + length f.1.0 ≡ length (calls_by n history) = sym (length-append (mine_of x) f.1.0) ∙ ap length f.1.1 in
          let others_own : AreCallers (m + 1) (others n history) xs = λ k y at.
          let g = all (suc k) y at in
          let number : number_in y ≡ m + suc k = g.0 in
          let own : n ≡ m + 0 = f.0 in
          (omega arith, subst (IsPrefix (mine_of y)) (sym (calls_others n (number_in y) history (λ (same : number_in y ≡ n). omega arith))) g.1, g.2) in
          let rest = callers_alone (m + 1) (others n history) xs others_own (omega arith) in
          let more : sum_by (λ z. length (mine_of z)) xs ≤ length (others n history) = rest.0 in
          let none_left : length f.1.0 ≡ 0 = omega arith in
          (omega arith, of_both n history (subst (HoldsOfAll Fact) f.1.1 (nothing_more (mine_of x) f.1.0 none_left f.2)) rest.1)
