-- Lists of digits, and the numbers that they write.
use Rattle.std.proofs.Common.{◌≡◌, ◌≢◌, ℕ, zero, suc, ◌+◌, ◌*◌, ◌%◌, ◌^◌, ◌<◌, ◌≤◌, List, [], ◌∷◌, ◌++◌, length, replicate, decimal, get_or, drop, refl, sym, ap, ◌∙◌, inl, inr, length-append, arith}
use Rattle.std.specs.Char.{digit_value}
use Rattle.std.specs.Str.Parse.{AllDigits, digits_value, digits_value_after}
use Rattle.std.proofs.Math.Nat.{pow-suc, mul-le-mul_right}
use Rattle.std.proofs.Math.ListN.{get_or-append}
use Rattle.std.proofs.lemmas.Bool.{cases_lt}
use Rattle.std.proofs.lemmas.Fmt.{decimal_digit, decimal_by_steps_wide}
use Rattle.std.proofs.lemmas.Int.Digits.{digits_value-lt}
use Rattle.std.proofs.lemmas.Str.{digit_value_digit}
use Rattle.std.proofs.lemmas.Str.Parse.{digit_from_value}

-- digits behind digits are digits
pub all-append : (xs ys : List ℕ) → AllDigits 10 xs → AllDigits 10 ys → AllDigits 10 (xs ++ ys)
all-append [] ys a b = b
all-append (c ∷ xs) ys a b = (a.0, all-append xs ys a.1 b)

-- a number with digits behind it
pub after-is : (n : ℕ) (ds : List ℕ) → digits_value_after 10 n ds ≡ n * 10 ^ length ds + digits_value 10 ds
after-is n [] = omega arith
after-is n (c ∷ cs) =
    let p : 10 ^ length (c ∷ cs) ≡ 10 ^ length cs * 10 = pow-suc 10 (length cs) in
    let here : digits_value_after 10 (n * 10 + digit_value c) cs ≡ (n * 10 + digit_value c) * 10 ^ length cs + digits_value 10 cs = after-is (n * 10 + digit_value c) cs in
    let there : digits_value 10 (c ∷ cs) ≡ (0 * 10 + digit_value c) * 10 ^ length cs + digits_value 10 cs = after-is (0 * 10 + digit_value c) cs in
    rw (p, there, here) (grind arith)

-- the first digit and the others
pub front-is : (c : ℕ) (cs : List ℕ) → digits_value 10 (c ∷ cs) ≡ digit_value c * 10 ^ length cs + digits_value 10 cs
front-is c cs = let none : 0 * 10 + digit_value c ≡ digit_value c = omega arith in after-is (0 * 10 + digit_value c) cs ∙ ap (λ d. d * 10 ^ length cs + digits_value 10 cs) none

after-append : (n : ℕ) (xs ys : List ℕ) → digits_value_after 10 n (xs ++ ys) ≡ digits_value_after 10 (digits_value_after 10 n xs) ys
after-append n [] ys = refl
after-append n (c ∷ xs) ys = after-append (n * 10 + digit_value c) xs ys

-- what two lists of digits write behind one another
pub value-append : (xs ys : List ℕ) → digits_value 10 (xs ++ ys) ≡ digits_value 10 xs * 10 ^ length ys + digits_value 10 ys
value-append xs ys = after-append 0 xs ys ∙ after-is (digits_value 10 xs) ys

-- zeros in front change nothing
pub zeros-all : (k : ℕ) (ds : List ℕ) → AllDigits 10 ds → AllDigits 10 (replicate k 48 ++ ds)
zeros-all zero ds a = a
zeros-all (suc k) ds a = (omega arith, zeros-all k ds a)

-- zeros in front change no value
pub zeros-value : (k : ℕ) (ds : List ℕ) → digits_value 10 (replicate k 48 ++ ds) ≡ digits_value 10 ds
zeros-value zero ds = refl
zeros-value (suc k) ds = zeros-value k ds

-- a quotient and a remainder are one pair
pub one-quotient : (a b p r s : ℕ) → r < p → s < p → a * p + r ≡ b * p + s → a ≡ b
one-quotient a b p r s rp sp e =
    elim (cases_lt a b) [
      | inl lt ↦ let more : (a + 1) * p ≤ b * p = mul-le-mul_right p (omega (arith, lt)) in absurd (omega (arith, more, e, rp))
      | inr ge ↦ elim (cases_lt b a) [
        | inl lt ↦ let more : (b + 1) * p ≤ a * p = mul-le-mul_right p (omega (arith, lt)) in absurd (omega (arith, more, e, sp))
        | inr le ↦ omega arith
      ]
    ]

same-digit : (c d : ℕ) → digit_value c < 10 → digit_value d < 10 → digit_value c ≡ digit_value d → c ≡ d
same-digit c d x y e = omega (arith, digit_value_digit c (digit_from_value c x), digit_value_digit d (digit_from_value d y))

-- digits of one length and one value are the same
pub same-digits : (xs ys : List ℕ) → AllDigits 10 xs → AllDigits 10 ys → length xs ≡ length ys → digits_value 10 xs ≡ digits_value 10 ys → xs ≡ ys
same-digits [] [] a b l e = refl
same-digits [] (d ∷ ys) a b l e = absurd (omega (arith, l))
same-digits (c ∷ xs) [] a b l e = absurd (omega (arith, l))
same-digits (c ∷ xs) (d ∷ ys) a b l e =
    let long : length xs ≡ length ys = omega (arith, l) in
    let p : ℕ = 10 ^ length ys in
    let both : digit_value c * p + digits_value 10 xs ≡ digit_value d * p + digits_value 10 ys = ap (λ k. digit_value c * 10 ^ k + digits_value 10 xs) (sym long) ∙ sym (front-is c xs) ∙ e ∙ front-is d ys in
    let small : digits_value 10 xs < p = rw (← long) (digits_value-lt 10 xs a.1) in
    let first : digit_value c ≡ digit_value d = one-quotient (digit_value c) (digit_value d) p _ _ small (digits_value-lt 10 ys b.1) both in
    let rest : digits_value 10 xs ≡ digits_value 10 ys = omega (arith, both, ap (λ k. k * p) first) in
    (λ i. same-digit c d a.0 b.0 first i ∷ same-digits xs ys a.1 b.1 long rest i)

-- a list that is not empty has a last item
pub snoc : (xs : List ℕ) → 0 < length xs → (front : List ℕ) × (end : ℕ) × (xs ≡ front ++ end ∷ [])
snoc [] some = absurd (omega arith)
snoc (x ∷ []) some = ([], x, refl)
snoc (x ∷ y ∷ ys) some = let (front, end, e) = snoc (y ∷ ys) (omega arith) in (x ∷ front, end, ap (λ zs. x ∷ zs) e)

-- two equal lists have the same last item
pub same-end : (front more : List ℕ) (x y : ℕ) → front ++ x ∷ [] ≡ more ++ y ∷ [] → x ≡ y
same-end [] [] x y e = ap (λ xs. get_or xs 0 0) e
same-end [] (b ∷ more) x y e = absurd (omega (arith, ap length e, length-append more (y ∷ [])))
same-end (a ∷ front) [] x y e = absurd (omega (arith, ap length e, length-append front (x ∷ [])))
same-end (a ∷ front) (b ∷ more) x y e = same-end front more x y (ap (drop 1) e)

-- ---- the digits of a number

-- the last digit of a number is its remainder by ten
pub last-digit : (n : ℕ) → n < 10 ^ 64 → (front : List ℕ) × (decimal n ≡ front ++ (48 + n % 10) ∷ [])
last-digit = decimal_by_steps_wide (λ n ds. (front : List ℕ) × (ds ≡ front ++ (48 + n % 10) ∷ []))
    (λ n small. ([], let same : n ≡ n % 10 = omega arith in ap (λ k. (48 + k) ∷ []) same))
    (λ n ds ten before. (ds, refl))

-- a positive number is not written with a zero in front
pub first-digit : (n : ℕ) → n < 10 ^ 64 → 0 < n → 48 < get_or (decimal n) 0 0
first-digit n small = (decimal_by_steps_wide (λ m ds. (0 < length ds) × (0 < m → 48 < get_or ds 0 0)) (λ m l. (omega arith, λ a. omega arith))
    (λ m ds l h. (omega (arith, length-append ds ((48 + m % 10) ∷ [])), λ a. omega (arith, get_or-append ds ((48 + m % 10) ∷ []) 0 0 h.0, h.1 (omega arith)))) n small).1

-- a number that is written with a zero in front is that zero alone
pub no-zero-first : (n : ℕ) (rest : List ℕ) → n < 10 ^ 64 → decimal n ≡ 48 ∷ rest → rest ≡ []
no-zero-first zero rest small e = ap (drop 1) (sym e ∙ decimal_digit 0 (omega arith))
no-zero-first (suc n) rest small e = absurd (omega (arith, first-digit (suc n) small (omega arith), ap (λ ds. get_or ds 0 0) e))

-- a number without a zero in front is as long as it looks
pub long-value : (c : ℕ) (cs : List ℕ) → digit_value c < 10 → c ≢ 48 → 10 ^ length cs ≤ digits_value 10 (c ∷ cs)
long-value c cs d some =
    let one : 1 ≤ digit_value c = omega (arith, digit_value_digit c (digit_from_value c d), some) in
    let more : 1 * 10 ^ length cs ≤ digit_value c * 10 ^ length cs = mul-le-mul_right (10 ^ length cs) one in
    omega (arith, more, front-is c cs)
