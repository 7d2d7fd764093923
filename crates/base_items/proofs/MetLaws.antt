-- Rows of stamps: which nodes have the stamp of the walk.
use Rattle.std.proofs.Common.{◌≡◌, ◌≢◌, ℕ, zero, suc, ◌+◌, ◌<◌, ◌≤◌, ◌⊎◌, inl, inr, Bool, true, false, ◌||◌, ◌==◌, List, length, slice_index, replicate, refl, sym, arith}
use Rattle.std.proofs.Math.ListN.{set}
use Rattle.std.proofs.lemmas.List.{get_or-set_same, get_or-set_other}
use Rattle.std.proofs.lemmas.Bool.{eq-eqb, ne_eqb}

-- a row of zeros has 0 at each place
pub zeros : (k n : ℕ) → slice_index (replicate k 0) n ≡ 0
zeros zero n = refl
zeros (suc k) zero = refl
zeros (suc k) (suc n) = zeros k n

-- in a new row no node has the first stamp of a walk
pub zeros-none : (k n : ℕ) → (slice_index (replicate k 0) n == 1) ≡ false
zeros-none k n = ne_eqb _ _ (λ same. absurd (omega (arith, zeros k n)))

-- no stamp of a new row is above the first stamp of a walk
pub zeros-low : (k n : ℕ) → slice_index (replicate k 0) n ≤ 1
zeros-low k n = omega (arith, zeros k n)

or-true : (b : Bool) → (b || true) ≡ true
or-true true = refl
or-true false = refl

or-false : (b : Bool) → (b || false) ≡ b
or-false true = refl
or-false false = refl

same_or_not : (m n : ℕ) → (m ≡ n) ⊎ (m ≢ n)
same_or_not m n = grind arith

-- a stamp more
pub stamped : (xs : List ℕ) (i n stamp : ℕ) → i < length xs → (slice_index (set xs i stamp) n == stamp) ≡ (slice_index xs n == stamp || (i == n))
stamped xs i n stamp within = elim (same_or_not n i) [
  | inl same ↦
      (let here : slice_index (set xs i stamp) i ≡ stamp = get_or-set_same {A = ℕ} xs i stamp 0 within in
      rw (same, eq-eqb _ _ here, eq-eqb i i refl) (sym (or-true (slice_index xs i == stamp))))
  | inr other ↦
      (let there : slice_index (set xs i stamp) n ≡ slice_index xs n = get_or-set_other {A = ℕ} xs i n stamp 0 other in
      rw (there, ne_eqb i n (λ same. other (sym same))) (sym (or-false (slice_index xs n == stamp))))
]

-- a stamp that is set keeps all stamps at most the newest
pub stamped-low : (xs : List ℕ) (i n stamp : ℕ) → i < length xs → slice_index xs n ≤ stamp → slice_index (set xs i stamp) n ≤ stamp
stamped-low xs i n stamp within low = elim (same_or_not n i) [
  | inl same ↦
      (let here : slice_index (set xs i stamp) i ≡ stamp = get_or-set_same {A = ℕ} xs i stamp 0 within in
      rw same (omega arith))
  | inr other ↦
      (let there : slice_index (set xs i stamp) n ≡ slice_index xs n = get_or-set_other {A = ℕ} xs i n stamp 0 other in
      omega arith)
]

-- a new stamp is nowhere
pub new_stamp : (xs : List ℕ) (n stamp : ℕ) → slice_index xs n ≤ stamp → (slice_index xs n == stamp + 1) ≡ false
new_stamp xs n stamp low = ne_eqb _ _ (λ same. absurd (omega arith))

-- what setting a stamp and beginning a walk do to a row of stamps
pub ruleset met_laws = (stamped, stamped-low, new_stamp)
