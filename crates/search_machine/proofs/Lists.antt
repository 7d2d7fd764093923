-- Reading a list after a write at one place.
use Rattle.std.proofs.Common.{◌≡◌, ◌≢◌, ℕ, zero, suc, ◌+◌, ◌⊎◌, inl, inr, List, [], ◌∷◌, ◌++◌, length, set, All, Some, slice_get, refl, ap, subst, arith, sum_by}
use Rattle.std.proofs.lemmas.Option.{slice_get_within, get_or_from_slice_get}
use Rattle.std.proofs.lemmas.List.Sums.{sum_by-set}

-- what holds of all entries of a list holds of the one at a place
pub All-at : {X : Type 0} (P : X → Type 0) (xs : List X) (i : ℕ) (x : X) → All P xs → slice_get xs i ≡ Some x → P x
All-at P xs i x all is = subst P (get_or_from_slice_get xs i x x is) (all i x (slice_get_within xs i x is))

-- at the place of a write the list has what was written
pub slice_get-set_same : {X : Type 0} (xs : List X) (i : ℕ) (x y : X) → slice_get xs i ≡ Some x → slice_get (set xs i y) i ≡ Some y
slice_get-set_same [] i x y is = cc
slice_get-set_same (z ∷ xs) zero x y is = refl
slice_get-set_same (z ∷ xs) (suc i) x y is = slice_get-set_same xs i x y is

-- at each other place a write leaves what was there
pub slice_get-set_other : {X : Type 0} (xs : List X) (i j : ℕ) (y : X) → j ≢ i → slice_get (set xs i y) j ≡ slice_get xs j
slice_get-set_other [] i j y ne = refl
slice_get-set_other (z ∷ xs) zero zero y ne = absurd (ne refl)
slice_get-set_other (z ∷ xs) zero (suc j) y ne = refl
slice_get-set_other (z ∷ xs) (suc i) zero y ne = refl
slice_get-set_other (z ∷ xs) (suc i) (suc j) y ne = slice_get-set_other xs i j y (λ e. ne (ap suc e))

-- what is read after a write is what was written, or what was there
pub slice_get-set_cases : {X : Type 0} (xs : List X) (i j : ℕ) (y z : X) → slice_get (set xs i y) j ≡ Some z → ((j ≡ i) × (z ≡ y)) ⊎ ((j ≢ i) × (slice_get xs j ≡ Some z))
slice_get-set_cases [] i j y z is = cc
slice_get-set_cases (x ∷ xs) zero zero y z is = inl (refl, cc)
slice_get-set_cases (x ∷ xs) zero (suc j) y z is = inr ((λ e. absurd (omega arith)), is)
slice_get-set_cases (x ∷ xs) (suc i) zero y z is = inr ((λ e. absurd (omega arith)), is)
slice_get-set_cases (x ∷ xs) (suc i) (suc j) y z is =
    elim (slice_get-set_cases xs i j y z is) [ inl w ↦ inl (ap suc w.0, w.1) | inr w ↦ inr ((λ e. w.0 (omega arith)), w.1) ]

-- what the first list has at a place, the joined list has there
pub slice_get-append_left : {X : Type 0} (xs ys : List X) (i : ℕ) (x : X) → slice_get xs i ≡ Some x → slice_get (xs ++ ys) i ≡ Some x
slice_get-append_left [] ys i x is = cc
slice_get-append_left (z ∷ xs) ys zero x is = is
slice_get-append_left (z ∷ xs) ys (suc i) x is = slice_get-append_left xs ys i x is

-- what the joined list has at a place comes from the first list, or from the second behind it
pub slice_get-append_cases : {X : Type 0} (xs ys : List X) (i : ℕ) (z : X) → slice_get (xs ++ ys) i ≡ Some z → (slice_get xs i ≡ Some z) ⊎ ((j : ℕ) × (i ≡ length xs + j) × (slice_get ys j ≡ Some z))
slice_get-append_cases [] ys i z is = inr (i, omega arith, is)
slice_get-append_cases (x ∷ xs) ys zero z is = inl is
slice_get-append_cases (x ∷ xs) ys (suc i) z is =
    elim (slice_get-append_cases xs ys i z is) [ inl w ↦ inl w | inr w ↦ inr (w.0, (let e = w.1 in omega arith), w.2) ]

-- behind the first list the joined list has what the second one has
pub slice_get-append_right : {X : Type 0} (xs ys : List X) (j : ℕ) → slice_get (xs ++ ys) (length xs + j) ≡ slice_get ys j
slice_get-append_right [] ys j = ap (slice_get ys) (omega arith)
slice_get-append_right (x ∷ xs) ys j =
    let e : suc (length xs) + j ≡ suc (length xs + j) = omega arith in rw e (slice_get-append_right xs ys j)

-- a sum after a write
pub sum_by-set_at : {X : Type 0} (f : X → ℕ) (xs : List X) (i : ℕ) (x y : X) → slice_get xs i ≡ Some x → sum_by f (set xs i y) + f x ≡ sum_by f xs + f y
sum_by-set_at f xs i x y is =
    let e = sum_by-set f xs i y x (slice_get_within xs i x is) in
    rw (get_or_from_slice_get xs i x x is) at e
