-- Digits, and decimals in units of 10^-12.
use Rattle.std.proofs.Common.{◌≡◌, ℕ, zero, suc, ◌+◌, ◌-◌, ◌*◌, ◌/◌, ◌%◌, ◌^◌, ◌<◌, ◌≤◌, ◌==◌, ◌⊎◌, inl, inr, true, false, nat_le, cond, Some, None, List, [], ◌∷◌, ◌++◌, length, get_or, take, drop, decimal, refl, sym, ap, subst, ◌∙◌, arith}
use Rattle.std.specs.Char.{digit_value, is_ascii_digit}
use Rattle.std.specs.Int.{IsInRange}
use Rattle.std.specs.Str.Parse.{AllDigits, digits_value}
use Rattle.std.proofs.Math.Nat.{pow-suc, div-le_self, pow-le-pow_right}
use Rattle.std.proofs.lemmas.Bool.{ne_eqb, eqb-true, cases_Bool, and_parts, and_from, leb-true, le-leb, true≢false}
use Rattle.std.proofs.lemmas.List.{take_more, append-nil}
use Rattle.std.proofs.lemmas.Int.Digits.{digits_value_push, digits_value-lt}
use Rattle.std.proofs.lemmas.Slice.Eq.{bytes_eq-Decides}
use Rattle.std.specs.Str.{bytes_eq}
use Rattle.std.proofs.lemmas.Str.{digit_value_digit}
use Rattle.std.proofs.lemmas.Str.Parse.{digit_from_value, digit_at, digits_value-take-le}
use Rattle.std.proofs.lemmas.Fmt.{decimal_is_IsNumeral_wide}
use Rattle.scaled_numbers.specs.Canonical.{padded, fraction_digits, behind_point, grains_text}
use Rattle.scaled_numbers.proofs.Fractions.{wide, few_digits, length-padded}
use Rattle.scaled_numbers.proofs.DigitLists.{zeros-all, zeros-value}
use Rattle.plan_tokens.specs.Words.{onto_parts, parts_of, scaled_parts, grains_of}
use Rattle.plan_tokens.specs.Cuts.{Lacks, StartsWith, IsCutAt, IsScaledParts}
use Rattle.plan_tokens.proofs.NumberWords.{decimal_digits, decimal_value, digits-lack, read_takes, read_found, read_none}

-- ---- the loop over digits

in-range : (c : ℕ) → is_ascii_digit c ≡ true → IsInRange 48 57 c
in-range c t = (let both = and_parts (nat_le 48 c) (nat_le c 57) t in (leb-true 48 c both.0, leb-true c 57 both.1))

is-digit : (c : ℕ) → IsInRange 48 57 c → is_ascii_digit c ≡ true
is-digit c r = and_from (nat_le 48 c) (nat_le c 57) (le-leb 48 c r.0) (le-leb c 57 r.1)

-- each byte of digits is a digit
pub digit_is : (ds : List ℕ) (i : ℕ) → AllDigits 10 ds → i < length ds → is_ascii_digit (get_or ds i 0) ≡ false → ⊥
digit_is ds i a lt e = true≢false (sym (is-digit (get_or ds i 0) (digit_at ds i a lt)) ∙ e)

-- one digit more of a value
pub value_more : (ds : List ℕ) (i v : ℕ) → i < length ds → v ≡ digits_value 10 (take i ds) → is_ascii_digit (get_or ds i 0) ≡ true → v * 10 + (get_or ds i 0 - 48) ≡ digits_value 10 (take (i + 1) ds)
value_more ds i v lt e t =
    let range : IsInRange 48 57 (get_or ds i 0) = in-range (get_or ds i 0) t in
    let d : digit_value (get_or ds i 0) + 48 ≡ get_or ds i 0 = digit_value_digit (get_or ds i 0) range in
    let pushed : digits_value 10 (take (i + 1) ds) ≡ digits_value 10 (take i ds) * 10 + digit_value (get_or ds i 0) = ap (digits_value 10) (take_more ds i 0 lt) ∙ digits_value_push 10 (take i ds) (get_or ds i 0) in
    omega (arith, pushed, d, e)

-- no front of digits is worth more than all
pub value_within : (ds : List ℕ) (i v : ℕ) → i < length ds → v ≡ digits_value 10 (take i ds) → is_ascii_digit (get_or ds i 0) ≡ true → v * 10 + (get_or ds i 0 - 48) ≤ digits_value 10 ds
value_within ds i v lt e t = omega (arith, value_more ds i v lt e t, digits_value-take-le 10 ds (i + 1) (omega arith))

-- ---- the digits behind a point

-- digits that write a fraction of at most so many places
pub record IsFraction (places n : ℕ) (digits : List ℕ) : Type 0 where
  pub all : AllDigits 10 digits
  pub within : length digits ≤ places
  pub value : digits_value 10 digits * 10 ^ (places - length digits) ≡ n

-- the digits of a fraction have its value
pub fraction_is : (places n : ℕ) → places ≤ 64 → n < 10 ^ places → IsFraction places n (fraction_digits places n)
fraction_is zero n within small = record { all = tt; within = omega arith; value = omega arith }
fraction_is (suc places) n within small = by (cases_Bool (n % 10 == 0)) (fraction_is places (n / 10) (omega arith) less)
  where
    less : n / 10 < 10 ^ places
    less = let p : 10 ^ suc places ≡ 10 ^ places * 10 = pow-suc 10 places in omega (arith, p, small)

    by : ((n % 10 == 0) ≡ true) ⊎ ((n % 10 == 0) ≡ false) → IsFraction places (n / 10) (fraction_digits places (n / 10)) → IsFraction (suc places) n (cond (n % 10 == 0) (fraction_digits places (n / 10)) (padded (suc places) n))
    by (inl t) h =
        let digits : List ℕ = fraction_digits places (n / 10) in
        let more : suc places - length digits ≡ suc (places - length digits) = omega (arith, h.within) in
        let p : 10 ^ suc (places - length digits) ≡ 10 ^ (places - length digits) * 10 = pow-suc 10 (places - length digits) in
        rw t (record { all = h.all; within = omega (arith, h.within); value = rw (more, p) (omega (arith, h.value, eqb-true (n % 10) 0 t)) })
    by (inr f) h =
        let few : length (decimal n) ≤ suc places = few_digits (suc places) n (omega arith) within small in
        let long : length (padded (suc places) n) ≡ suc places = length-padded (suc places) n few in
        let is = decimal_is_IsNumeral_wide n (wide (suc places) n within small) in
        let none : suc places - length (padded (suc places) n) ≡ 0 = omega (arith, long) in
        rw f (record {
          all = zeros-all (suc places - length (decimal n)) (decimal n) is.0.1;
          within = omega (arith, long);
          value = rw none (omega (arith, zeros-value (suc places - length (decimal n)) (decimal n), is.1));
        })

-- ---- the parts of a decimal

module _ (v : ℕ) (small : v < 2 ^ 128) where
  whole-small : v / 10 ^ 12 < 2 ^ 128
  whole-small = omega (arith, div-le_self v (10 ^ 12), small)

  rest-small : v % 10 ^ 12 < 10 ^ 12
  rest-small = omega arith

  -- the text of grains has the value's whole part and fraction
  pub grains_scaled : IsScaledParts v (decimal (v / 10 ^ 12)) (fraction_digits 12 (v % 10 ^ 12))
  grains_scaled =
      let h = fraction_is 12 (v % 10 ^ 12) (omega arith) rest-small in
      let sum : digits_value 10 (decimal (v / 10 ^ 12)) * 10 ^ 12 + digits_value 10 (fraction_digits 12 (v % 10 ^ 12)) * 10 ^ (12 - length (fraction_digits 12 (v % 10 ^ 12))) ≡ v =
      (rw (h.value, decimal_value (v / 10 ^ 12) whole-small) (omega arith)) in
      record {
        short = h.within;
        whole_digits = decimal_digits (v / 10 ^ 12) whole-small;
        fraction_digits = h.all;
        sum = sum;
      }

no-point : (b : ℕ) (bytes : List ℕ) (p : List ℕ × List ℕ) → (b ≡ 46 → ⊥) → onto_parts b bytes p ≡ (b ∷ p.0, p.1)
no-point b bytes p h = rw (ne_eqb b 46 h) refl

parts-front : (word rest : List ℕ) → Lacks 46 word → parts_of (word ++ rest) ≡ (word ++ (parts_of rest).0, (parts_of rest).1)
unfolding parts_of
parts-front [] rest h = refl
parts-front (b ∷ word) rest h = ap (onto_parts b (word ++ rest)) (parts-front word rest h.1) ∙ no-point b (word ++ rest) (word ++ (parts_of rest).0, (parts_of rest).1) h.0

parts-point : (digits : List ℕ) → parts_of (behind_point digits) ≡ ([], digits)
unfolding parts_of
parts-point [] = refl
parts-point (d ∷ digits) = refl

abbrev in-parts : List ℕ → List ℕ × List ℕ → List ℕ × List ℕ
in-parts word p = (word ++ p.0, p.1)

abbrev with-fraction : List ℕ → List ℕ → List ℕ × List ℕ
with-fraction fraction word = (word, fraction)

-- the parts of the text of grains give the value back
pub grains_guess : (v : ℕ) → v < 2 ^ 128 → scaled_parts (parts_of (grains_text v 12)) ≡ v
unfolding grains_text
grains_guess v small =
    let s = grains_scaled v small in
    ap scaled_parts (parts-front (decimal (v / 10 ^ 12)) (behind_point (fraction_digits 12 (v % 10 ^ 12))) (digits-lack 46 (decimal (v / 10 ^ 12)) (inl (omega arith)) s.whole_digits)
    ∙ ap (in-parts (decimal (v / 10 ^ 12))) (parts-point (fraction_digits 12 (v % 10 ^ 12)))
    ∙ ap (with-fraction (fraction_digits 12 (v % 10 ^ 12))) (append-nil (decimal (v / 10 ^ 12))))
    ∙ s.sum

-- bytes that are read as grains are the text of that value
pub grains_takes : (bytes : List ℕ) (v : ℕ) → grains_of bytes ≡ Some v → (v < 2 ^ 128) × (bytes ≡ grains_text v 12)
unfolding grains_of
grains_takes bytes v e = read_takes (λ value. grains_text value 12) (λ bytes. scaled_parts (parts_of bytes)) bytes v e

-- the text of a value is read as that value
pub grains_found : (bytes : List ℕ) (v : ℕ) → v < 2 ^ 128 → bytes ≡ grains_text v 12 → grains_of bytes ≡ Some v
unfolding grains_of
grains_found bytes v small e = read_found (λ value. grains_text value 12) (λ bytes. scaled_parts (parts_of bytes)) grains_guess bytes v small e

-- bytes that are the text of no value are not read
pub grains_none : (bytes : List ℕ) → ((v : ℕ) → v < 2 ^ 128 → bytes ≡ grains_text v 12 → ⊥) → grains_of bytes ≡ None
unfolding grains_of
grains_none bytes lost = read_none (λ value. grains_text value 12) (λ bytes. scaled_parts (parts_of bytes)) bytes lost

-- bytes that are equal to the text of the value at hand are read as it
pub grains_yes : (bytes : List ℕ) (v : ℕ) → v < 2 ^ 128 → bytes_eq bytes (grains_text v 12) ≡ true → Some v ≡ grains_of bytes
grains_yes bytes v small e = sym (grains_found bytes v small ((bytes_eq-Decides bytes (grains_text v 12)).0 e))

-- bytes without a guess are not read
pub grains_lost : (bytes : List ℕ) → ((v : ℕ) → v < 2 ^ 128 → bytes ≡ grains_text v 12 → None ≡ Some v) → None ≡ grains_of bytes
grains_lost bytes lost = sym (grains_none bytes (λ v small e. (let bad : None ≡ Some v = lost v small e in absurd cc)))

-- bytes that differ from the text of the value at hand are not read
pub grains_no : (bytes : List ℕ) (v : ℕ) → ((n : ℕ) → n < 2 ^ 128 → bytes ≡ grains_text n 12 → Some v ≡ Some n) → bytes_eq bytes (grains_text v 12) ≡ false → None ≡ grains_of bytes
grains_no bytes v read f = sym (grains_none bytes (λ n small e. other n small e))
  where
    other : (n : ℕ) → n < 2 ^ 128 → bytes ≡ grains_text n 12 → ⊥
    other n small e =
        let is : Some v ≡ Some n = read n small e in
        let same : v ≡ n = cc in
        true≢false (sym ((bytes_eq-Decides bytes (grains_text v 12)).1 (e ∙ ap (λ k. grains_text k 12) (sym same))) ∙ f)

-- the fraction of a value fits a machine integer
pub fraction_small : (v : ℕ) (whole_part fraction : List ℕ) → IsScaledParts v whole_part fraction → digits_value 10 fraction < 2 ^ 128
fraction_small v whole_part fraction s = omega (arith, digits_value-lt 10 fraction s.fraction_digits, pow-le-pow_right {n = 10} (omega arith) s.short)

-- a digit stands first
pub grains_first : (v : ℕ) → v < 2 ^ 128 → (c : ℕ) × (rest : List ℕ) × (grains_text v 12 ≡ c ∷ rest) × IsInRange 48 57 c
unfolding grains_text
grains_first v small =
    let is = decimal_is_IsNumeral_wide (v / 10 ^ 12) (omega (arith, div-le_self v (10 ^ 12), small)) in
    first (decimal (v / 10 ^ 12)) (behind_point (fraction_digits 12 (v % 10 ^ 12))) is.0.0 is.0.1
  where
    first : (ds more : List ℕ) → 0 < length ds → AllDigits 10 ds → (c : ℕ) × (rest : List ℕ) × (ds ++ more ≡ c ∷ rest) × IsInRange 48 57 c
    first [] more some a = absurd (omega arith)
    first (c ∷ ds) more some a = (c, ds ++ more, refl, digit_from_value c a.0)

-- ---- a text has one cut

-- bytes are cut at the first place of a byte in one way
pub one_cut : (at : ℕ) (a b x y : List ℕ) → Lacks at a → Lacks at b → StartsWith at x → StartsWith at y → a ++ x ≡ b ++ y → (a ≡ b) × (x ≡ y)
one_cut at [] [] x y la lb sx sy e = (refl, e)
one_cut at [] (c ∷ b) [] y la lb sx sy e = absurd cc
one_cut at [] (c ∷ b) (d ∷ x) y la lb sx sy e = (let same : d ≡ c = cc in absurd (lb.0 (sym same ∙ sx)))
one_cut at (c ∷ a) [] x [] la lb sx sy e = absurd cc
one_cut at (c ∷ a) [] x (d ∷ y) la lb sx sy e = (let same : c ≡ d = cc in absurd (la.0 (same ∙ sy)))
one_cut at (c ∷ a) (d ∷ b) x y la lb sx sy e =
    let head : c ≡ d = cc in
    let tail : a ++ x ≡ b ++ y = cc in
    let more = one_cut at a b x y la.1 lb.1 sx sy tail in
    (ap (λ z. z ∷ a) head ∙ ap (λ zs. d ∷ zs) more.0, more.1)

starts-point : (digits : List ℕ) → StartsWith 46 (behind_point digits)
starts-point [] = tt
starts-point (d ∷ digits) = refl

drop-point : (digits : List ℕ) → drop 1 (behind_point digits) ≡ digits
drop-point [] = refl
drop-point (d ∷ digits) = refl

cut-scaled : (v : ℕ) (bytes whole_part rest : List ℕ) → v < 2 ^ 128 → bytes ≡ grains_text v 12 → IsCutAt 46 bytes whole_part rest → IsScaledParts v whole_part (drop 1 rest)
unfolding grains_text
cut-scaled v bytes whole_part rest small e k =
    let s = grains_scaled v small in
    let parts = one_cut 46 whole_part (decimal (v / 10 ^ 12)) rest (behind_point (fraction_digits 12 (v % 10 ^ 12))) k.none_before (digits-lack 46 (decimal (v / 10 ^ 12)) (inl (omega arith)) s.whole_digits) k.begins (starts-point (fraction_digits 12 (v % 10 ^ 12))) (sym k.parts ∙ e) in
    subst (λ f. IsScaledParts v whole_part f) (sym (ap (drop 1) parts.1 ∙ drop-point (fraction_digits 12 (v % 10 ^ 12)))) (subst (λ w. IsScaledParts v w (fraction_digits 12 (v % 10 ^ 12))) (sym parts.0) s)

-- the text of grains, cut at its point, gives whole part and fraction
pub cut_scaled : (v : ℕ) (bytes whole_part rest fraction : List ℕ) → v < 2 ^ 128 → bytes ≡ grains_text v 12 → IsCutAt 46 bytes whole_part rest → fraction ≡ drop 1 rest → IsScaledParts v whole_part fraction
cut_scaled v bytes whole_part rest fraction small e k is = subst (λ f. IsScaledParts v whole_part f) (sym is) (cut-scaled v bytes whole_part rest small e k)
