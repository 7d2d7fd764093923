-- Powers of ten, and numbers that are kept up to a bound.
use Rattle.std.proofs.Common.{◌≡◌, ℕ, ◌+◌, ◌-◌, ◌*◌, ◌^◌, ◌<◌, ◌≤◌, ◌/◌, ◌%◌, min, refl, sym, ap, ◌∙◌, inl, inr, arith, add-one}
use Rattle.std.proofs.Math.Nat.{pow-suc, one-le-pow, pow-le-pow_right, mul-le-mul_left, mul-le-mul_right, mul_assoc, zero-mul, mul-div_cancel}
use Rattle.std.proofs.lemmas.Nat.{pow-add}
use Rattle.std.proofs.lemmas.Bool.{cases_lt}
use Rattle.std.specs.Prelude.{Ok, Err, Result, true, false}
use Rattle.scaled_numbers.specs.declared.fault.NumberFault.{NumberFault}
use Rattle.scaled_numbers.specs.Decimal.{Exponent, no_exponent, exponent, no_sign, plus, minus, raised, lowered}
use Rattle.scaled_numbers.specs.declared.fault.NumberFault.TheVariants.{NotANumber, Finer, TooLarge}
use Rattle.scaled_numbers.specs.Kept.{Holds, Agrees, IsShifted, power_of, is_negative}

-- a power of ten is at least one
pub one-le-ten : (k : ℕ) → 1 ≤ 10 ^ k
one-le-ten k = one-le-pow k 10 (omega arith)

-- the next power of ten
pub ten-more : (k : ℕ) → 10 ^ (k + 1) ≡ 10 ^ k * 10
ten-more k = rw add-one (pow-suc 10 k)

-- more than 0, with eighteen zeros or more behind it
pub long : (a k : ℕ) → 0 < a → 18 ≤ k → 10 ^ 18 ≤ a * 10 ^ k
long a k some h =
    let p : 10 ^ 18 ≤ 10 ^ k = pow-le-pow_right (omega arith) h in
    let q : 1 * 10 ^ k ≤ a * 10 ^ k = mul-le-mul_right (10 ^ k) some in
    omega (arith, p, q)

-- what reaches the cap is kept as the cap
pub at_cap : (m : ℕ) → 10 ^ 18 ≤ m → 10 ^ 18 ≡ min m (10 ^ 18)
at_cap m h = omega (arith, h)

-- a bound in between changes nothing
pub kept-mul : (e p c : ℕ) → 1 ≤ p → min (min e c * p) c ≡ min (e * p) c
kept-mul e p c some =
    elim (cases_lt e c) [
      | inl lt ↦ let m : min e c ≡ e = omega arith in rw m refl
      | inr le ↦
          let m : min e c ≡ c = omega arith in
          let q : c * 1 ≤ c * p = mul-le-mul_left c some in
          let r : e * 1 ≤ e * p = mul-le-mul_left e some in
          rw m (omega (arith, q, r))
    ]

-- capping at each step of times and plus is capping at the end
pub kept-push : (e p c d : ℕ) → 1 ≤ p → min (min (min e c * p) c + d) c ≡ min (e * p + d) c
kept-push e p c d some = rw (kept-mul e p c some) (omega arith)

-- one more zero behind a capped number
pub once-more : (a k c : ℕ) → min (min (a * 10 ^ k) c * 10) c ≡ min (a * 10 ^ (k + 1)) c
once-more a k c = kept-mul (a * 10 ^ k) 10 c (omega arith) ∙ ap (λ (n : ℕ). min n c) (mul_assoc a (10 ^ k) 10 ∙ ap (λ (n : ℕ). a * n) (sym (ten-more k)))

-- ---- digits behind a number

-- a digit other than zero takes the zeros that wait into the core
pub holds_digit : (core zeros n digit : ℕ) → 0 < digit → digit < 10 → Holds core zeros n → Holds (min (min (core * 10 ^ (zeros + 1)) (10 ^ 18) + digit) (10 ^ 18)) 0 (n * 10 + digit)
holds_digit core zeros n digit some small h =
    let e : h.exact * 10 ^ (zeros + 1) ≡ n * 10 = rw (ten-more zeros, h.value) (sym (mul_assoc h.exact (10 ^ zeros) 10)) in
    record {
      exact = h.exact * 10 ^ (zeros + 1) + digit;
      kept = rw h.kept (kept-push h.exact (10 ^ (zeros + 1)) (10 ^ 18) digit (one-le-ten (zeros + 1)));
      value = omega (arith, e);
      last = λ _. omega (arith, e);
    }

-- a zero waits behind the core
pub holds_zero : (core zeros n : ℕ) → Holds core zeros n → Holds core (zeros + 1) (n * 10)
holds_zero core zeros n h = record {
  exact = h.exact;
  kept = h.kept;
  value = rw (ten-more zeros, h.value) (mul_assoc h.exact (10 ^ zeros) 10);
  last = h.last;
}

-- ---- shifting

-- a power of ten that divides another
pub split : (up down : ℕ) → down ≤ up → 10 ^ up ≡ 10 ^ (up - down) * 10 ^ down
split up down h = let e : up ≡ (up - down) + down = omega arith in ap (λ (k : ℕ). 10 ^ k) e ∙ pow-add 10 (up - down) down

-- where the fraction is not longer than the shift, the shift is a whole multiple
pub whole-shift : (n up down : ℕ) → down ≤ up → n * 10 ^ up ≡ n * 10 ^ (up - down) * 10 ^ down
whole-shift n up down h = ap (λ (p : ℕ). n * p) (split up down h) ∙ sym (mul_assoc n (10 ^ (up - down)) (10 ^ down))

-- a common positive factor cancels
pub cancel : (a b p : ℕ) → 1 ≤ p → a * p ≡ b * p → a ≡ b
cancel a b p some e = sym (mul-div_cancel a some) ∙ ap (λ (n : ℕ). n / p) e ∙ mul-div_cancel b some

-- what no zero ends is not divisible by ten
pub no-shift : (n v up down : ℕ) → 0 < n → (0 < n → 0 < n % 10) → up < down → n * 10 ^ up ≡ v * 10 ^ down → ⊥
no-shift n v up down some last lt e =
    let k : ℕ = down - up - 1 in
    let parts : 10 ^ down ≡ 10 ^ k * 10 * 10 ^ up =
    (let d : down ≡ (k + 1) + up = omega arith in ap (λ (i : ℕ). 10 ^ i) d ∙ pow-add 10 (k + 1) up ∙ ap (λ (p : ℕ). p * 10 ^ up) (ten-more k)) in
    let q : n * 10 ^ up ≡ v * 10 ^ k * 10 * 10 ^ up = e ∙ ap (λ (p : ℕ). v * p) parts ∙ grind arith in
    let r : n ≡ v * 10 ^ k * 10 = cancel n (v * 10 ^ k * 10) (10 ^ up) (one-le-ten up) q in
    omega (arith, last some)

-- ---- the answers of a shift

-- the kept result is the exact one, up to the bound
kept-shift : (core n up down exact_up exact_down : ℕ) → core ≡ min n (10 ^ 18) → 0 < core → down ≤ up → Agrees up down exact_up exact_down
    → (exact_down ≤ exact_up) × (min (core * 10 ^ (up - down)) (10 ^ 18) ≡ min (n * 10 ^ (exact_up - exact_down)) (10 ^ 18))
kept-shift core n up down eu ed kept some le (inl (u, d)) =
    (omega arith, rw (← u, ← d, kept) (kept-mul n (10 ^ (up - down)) (10 ^ 18) (one-le-ten (up - down))))
kept-shift core n up down eu ed kept some le (inr (inl (d, far, more))) =
    let a : 10 ^ 18 ≤ core * 10 ^ (up - down) = long core (up - down) some (omega arith) in
    let b : 10 ^ 18 ≤ n * 10 ^ (eu - ed) = long n (eu - ed) (omega arith) (omega arith) in
    (omega arith, sym (at_cap (core * 10 ^ (up - down)) a) ∙ at_cap (n * 10 ^ (eu - ed)) b)
kept-shift core n up down eu ed kept some le (inr (inr (u, lt, more))) = absurd (omega arith)

-- zero shifted by any power of ten is zero
pub shift_zero : (n eu ed limit : ℕ) → 0 ≡ min n (10 ^ 18) → 0 < limit → IsShifted n eu ed limit (Ok 0)
shift_zero n eu ed limit kept some =
    let none : n ≡ 0 = omega (arith, kept) in
    (rw (none, zero-mul, zero-mul) refl, some)

-- a number that no zero ends is finer than a grain where its fraction is longer than the shift
pub shift_finer : (core n up down eu ed limit : ℕ) → core ≡ min n (10 ^ 18) → 0 < core → (0 < n → 0 < n % 10) → up < down → Agrees up down eu ed → IsShifted n eu ed limit (Err Finer)
shift_finer core n up down eu ed limit kept some last lt a = λ v e. no-shift n v eu ed (omega (arith, kept)) last (apart a) e
  where
    apart : Agrees up down eu ed → eu < ed
    apart (inl (u, d)) = omega arith
    apart (inr (inl (d, far, more))) = absurd (omega arith)
    apart (inr (inr (u, l, more))) = omega arith

-- a shifted number that reaches the limit is too large
pub shift_large : (core n up down eu ed limit value : ℕ) → core ≡ min n (10 ^ 18) → 0 < core → down ≤ up → Agrees up down eu ed → value ≡ min (core * 10 ^ (up - down)) (10 ^ 18) → limit ≤ value → IsShifted n eu ed limit (Err TooLarge)
shift_large core n up down eu ed limit value kept some le a is large =
    let k = kept-shift core n up down eu ed kept some le a in
    (n * 10 ^ (eu - ed), whole-shift n eu ed k.0, omega (arith, is, k.1))

-- a shifted number below the limit is the value
pub shift_ok : (core n up down eu ed limit value : ℕ) → core ≡ min n (10 ^ 18) → 0 < core → down ≤ up → Agrees up down eu ed → limit ≤ 10 ^ 18 → value ≡ min (core * 10 ^ (up - down)) (10 ^ 18) → value < limit → IsShifted n eu ed limit (Ok value)
shift_ok core n up down eu ed limit value kept some le a cap is small =
    let k = kept-shift core n up down eu ed kept some le a in
    let v : value ≡ n * 10 ^ (eu - ed) = omega (arith, is, k.1) in
    (whole-shift n eu ed k.0 ∙ ap (λ (m : ℕ). m * 10 ^ ed) (sym v), small)

-- one number at one scale has one value
pub one_value : (n v w up down : ℕ) → n * 10 ^ up ≡ v * 10 ^ down → n * 10 ^ up ≡ w * 10 ^ down → v ≡ w
one_value n v w up down e f = cancel v w (10 ^ down) (one-le-ten down) (sym e ∙ f)

-- the zeros of a core go into the shift
pub unshift : (m n zeros up down limit : ℕ) (r : Result ℕ NumberFault) → m ≡ n * 10 ^ zeros → IsShifted n (zeros + up) down limit r → IsShifted m up down limit r
unshift m n zeros up down limit r e h =
    let same : m * 10 ^ up ≡ n * 10 ^ (zeros + up) = rw (e, pow-add 10 zeros up) (mul_assoc n (10 ^ zeros) (10 ^ up)) in
    by-answer r h same
  where
    by-answer : (r : Result ℕ NumberFault) → IsShifted n (zeros + up) down limit r → m * 10 ^ up ≡ n * 10 ^ (zeros + up) → IsShifted m up down limit r
    by-answer (Ok v) h same = (same ∙ h.0, h.1)
    by-answer (Err (NotANumber at)) h same = h
    by-answer (Err Finer) h same = λ v q. h v (sym same ∙ q)
    by-answer (Err TooLarge) h same = (h.0, same ∙ h.1, h.2)

-- ---- the exponent, kept up to a bound

minus-is : (e : Exponent) → is_negative e ≡ true → (raised e ≡ 0) × (lowered e ≡ power_of e)
minus-is no_exponent n = absurd cc
minus-is (exponent mark no_sign digits) n = absurd cc
minus-is (exponent mark plus digits) n = absurd cc
minus-is (exponent mark minus digits) n = (refl, refl)

plus-is : (e : Exponent) → is_negative e ≡ false → (raised e ≡ power_of e) × (lowered e ≡ 0)
plus-is no_exponent n = (refl, refl)
plus-is (exponent mark no_sign digits) n = (refl, refl)
plus-is (exponent mark plus digits) n = (refl, refl)
plus-is (exponent mark minus digits) n = absurd cc

-- a negative exponent moves the point as its capped copy does
pub lowers : (e : Exponent) (zeros scale places len power : ℕ) → places ≡ len → zeros ≤ 8388608 → scale ≤ 6 → is_negative e ≡ true → power ≡ min (power_of e) (10 ^ 9) → Agrees (zeros + scale) (places + power) (zeros + (scale + raised e)) (len + lowered e)
lowers e zeros scale places len power l z s neg p =
    let m = minus-is e neg in
    elim (cases_lt (power_of e) (10 ^ 9)) [
      | inl lt ↦ inl (omega (arith, m.0), omega (arith, m.1, p))
      | inr le ↦ inr (inr (omega (arith, m.0), omega (arith, p), omega (arith, m.1, p)))
    ]

-- an exponent that is not negative moves the point as its capped copy does
pub raises : (e : Exponent) (zeros scale places len power : ℕ) → places ≡ len → places ≤ 8388608 → is_negative e ≡ false → power ≡ min (power_of e) (10 ^ 9) → Agrees (zeros + scale + power) places (zeros + (scale + raised e)) (len + lowered e)
raises e zeros scale places len power l z neg p =
    let m = plus-is e neg in
    elim (cases_lt (power_of e) (10 ^ 9)) [
      | inl lt ↦ inl (omega (arith, m.0, p), omega (arith, m.1))
      | inr le ↦ inr (inl (omega (arith, m.1), omega (arith, p), omega (arith, m.0, p)))
    ]
