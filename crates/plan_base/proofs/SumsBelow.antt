-- Laws of sums over the numbers below a count.
use Rattle.std.proofs.Common.{◌≡◌, ◌≢◌, ℕ, zero, suc, ◌+◌, ◌*◌, ◌<◌, ◌≤◌, ◌⊎◌, inl, inr, refl, arith}
use Rattle.plan_base.specs.Sums.{sum_below}

-- sums of equal terms are equal
pub sum_below-same : (f g : ℕ → ℕ) (n : ℕ) → ((i : ℕ) → i < n → f i ≡ g i) → sum_below f n ≡ sum_below g n
sum_below-same f g zero h = refl
sum_below-same f g (suc n) h = omega (arith, sum_below-same f g n (λ i below. h i (omega arith)), h n (omega arith))

-- terms that are at most others have a sum that is at most theirs
pub sum_below-le : (f g : ℕ → ℕ) (n : ℕ) → ((i : ℕ) → i < n → f i ≤ g i) → sum_below f n ≤ sum_below g n
sum_below-le f g zero h = omega arith
sum_below-le f g (suc n) h = omega (arith, sum_below-le f g n (λ i below. h i (omega arith)), h n (omega arith))

-- terms that are all 0
pub sum_below-zero : (f : ℕ → ℕ) (n : ℕ) → ((i : ℕ) → i < n → f i ≡ 0) → sum_below f n ≡ 0
sum_below-zero f zero h = refl
sum_below-zero f (suc n) h = omega (arith, sum_below-zero f n (λ i within. h i (omega arith)), h n (omega arith))

-- the sum of two terms at each place is the two sums together
pub sum_below-plus : (f g : ℕ → ℕ) (n : ℕ) → sum_below (λ i. f i + g i) n ≡ sum_below f n + sum_below g n
sum_below-plus f g zero = refl
sum_below-plus f g (suc n) = omega (arith, sum_below-plus f g n)

-- a common factor goes before the sum
pub sum_below-times : (c : ℕ) (f : ℕ → ℕ) (n : ℕ) → sum_below (λ i. c * f i) n ≡ c * sum_below f n
sum_below-times c f zero = omega arith
sum_below-times c f (suc n) = omega (arith, sum_below-times c f n)

-- a sum over two indices may be taken in either order
pub sum_below-swap : (f : ℕ → ℕ → ℕ) (m n : ℕ) → sum_below (λ i. sum_below (f i) n) m ≡ sum_below (λ j. sum_below (λ i. f i j) m) n
sum_below-swap f zero n = omega (arith, sum_below-zero (λ i. 0) n (λ i within. refl))
sum_below-swap f (suc m) n = omega (arith, sum_below-swap f m n, sum_below-plus (λ j. sum_below (λ i. f i j) m) (f m) n)

either_way : (x y : ℕ) → (x ≤ y) ⊎ (y < x)
either_way x y = grind arith

-- two sums whose terms differ at one place
pub sum_below-change : (f g : ℕ → ℕ) (n k : ℕ) → k < n → ((i : ℕ) → i < n → i ≢ k → f i ≡ g i) → sum_below f n + g k ≡ sum_below g n + f k
sum_below-change f g zero k within same = absurd (omega arith)
sum_below-change f g (suc n) k within same =
    elim (either_way n k) [
      | inl last ↦
          (let is : k ≡ n = omega arith in
          let rest = sum_below-same f g n (λ i below. same i (omega arith) (omega arith)) in
          rw is (omega arith))
      | inr before ↦
          (let rest = sum_below-change f g n k before (λ i below other. same i (omega arith) other) in
          let here = same n (omega arith) (omega arith) in
          omega arith)
    ]

-- a positive sum has a positive term
pub record HasTerm (f : ℕ → ℕ) (n : ℕ) : Type 0 where
  pub place : ℕ
  pub within : place < n
  pub positive : 0 < f place

-- of a positive sum, a positive term is found
pub term-sum_below : (f : ℕ → ℕ) (n : ℕ) → 0 < sum_below f n → HasTerm f n
term-sum_below f zero h = absurd (omega arith)
term-sum_below f (suc n) h =
    elim (either_way (f n) 0) [
      | inl none ↦ (let rest = term-sum_below f n (omega arith) in record { place = rest.place; within = omega (arith, rest.within); positive = rest.positive })
      | inr some ↦ record { place = n; within = omega arith; positive = some }
    ]

-- a term is at most the sum
pub term-le-sum_below : (f : ℕ → ℕ) (n i : ℕ) → i < n → f i ≤ sum_below f n
term-le-sum_below f zero i h = absurd (omega arith)
term-le-sum_below f (suc n) i h =
    elim (either_way n i) [
      | inl last ↦ (let same : i ≡ n = omega arith in rw same (omega arith))
      | inr before ↦ omega (arith, term-le-sum_below f n i before)
    ]
