-- Terms that are found one after the other, and their sum.
use Rattle.std.proofs.Common.{◌≡◌, ℕ, suc, ◌+◌, ◌<◌, ◌⊎◌, inl, inr, ◌==◌, if◌then◌else◌, refl, sym, ap, arith}
use Rattle.std.proofs.lemmas.Bool.{eq-eqb, ne_eqb}
use Rattle.plan_base.specs.Sums.{sum_below}
use Rattle.plan_base.proofs.SumsBelow.{sum_below-same}

-- the terms with one at a place
abbrev pub with_term : {A : Type 0} → (ℕ → A) → ℕ → A → ℕ → A
with_term f n x i = if i == n then x else f i

-- at its own place the new term stands
pub with_term-here : {A : Type 0} (f : ℕ → A) (n : ℕ) (x : A) → with_term f n x n ≡ x
with_term-here f n x = rw (eq-eqb n n refl) refl

-- before the place of the new term all terms stay
pub with_term-below : {A : Type 0} (f : ℕ → A) (n : ℕ) (x : A) (i : ℕ) → i < n → with_term f n x i ≡ f i
with_term-below f n x i below = rw (ne_eqb i n (λ same. absurd (omega arith))) refl

last_or_before : (n i : ℕ) → i < suc n → (i ≡ n) ⊎ (i < n)
last_or_before n i h = grind arith

-- where the terms before a place are right, and so is the new one there, all of them are right
pub with_term-fits : {A : Type 0} (IsTerm : ℕ → A → Type 0) (f : ℕ → A) (n : ℕ) (x : A) → ((i : ℕ) → i < n → IsTerm i (f i)) → IsTerm n x → (i : ℕ) → i < suc n → IsTerm i (with_term f n x i)
with_term-fits IsTerm f n x before here i below =
    elim (last_or_before n i below) [
      | inl last ↦ rw (last, with_term-here f n x) here
      | inr less ↦ rw (with_term-below f n x i less) (before i less)
    ]

-- the terms of the first places, each of which is right, and the sum of what they weigh
pub record HasSum (IsTerm : ℕ → ℕ → Type 0) (weigh : ℕ → ℕ → ℕ) (n total : ℕ) : Type 0 where
  pub terms : ℕ → ℕ
  pub are_terms : (i : ℕ) → i < n → IsTerm i (terms i)
  pub is_sum : total ≡ sum_below (λ i. weigh i (terms i)) n

-- the sum of no terms is 0
pub HasSum-none : (IsTerm : ℕ → ℕ → Type 0) (weigh : ℕ → ℕ → ℕ) → HasSum IsTerm weigh 0 0
HasSum-none IsTerm weigh = record { terms = λ i. 0; are_terms = λ i below. absurd (omega arith); is_sum = refl }

-- one more right term adds what it weighs to the sum
pub HasSum-next : (IsTerm : ℕ → ℕ → Type 0) (weigh : ℕ → ℕ → ℕ) (n total x : ℕ) → HasSum IsTerm weigh n total → IsTerm n x → HasSum IsTerm weigh (suc n) (total + weigh n x)
HasSum-next IsTerm weigh n total x has is =
    record {
      terms = with_term has.terms n x;
      are_terms = with_term-fits IsTerm has.terms n x has.are_terms is;
      is_sum =
          (let same = sum_below-same (λ i. weigh i (has.terms i)) (λ i. weigh i (with_term has.terms n x i)) n (λ i below. ap (weigh i) (sym (with_term-below has.terms n x i below))) in
          let here : weigh n (with_term has.terms n x n) ≡ weigh n x = ap (weigh n) (with_term-here has.terms n x) in
          omega (arith, same, here, has.is_sum));
    }
