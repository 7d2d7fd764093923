-- The canonical decimal of a value at a scale: there is one, and no other.
use Rattle.std.proofs.Common.{◌≡◌, ◌≢◌, ◌↔◌, ℕ, zero, suc, ◌+◌, ◌-◌, ◌*◌, ◌/◌, ◌%◌, ◌^◌, ◌<◌, ◌≤◌, Bool, true, false, true≢false, eqb, List, [], ◌∷◌, ◌++◌, length, replicate, decimal, refl, sym, ap, subst, ◌∙◌, inl, inr, append_assoc, append-nil, length-append, mod-lt, arith}
use Rattle.std.specs.Char.{digit_value}
use Rattle.std.specs.Str.Parse.{AllDigits, digits_value}
use Rattle.std.proofs.Math.Nat.{pow-suc, div-le_self, pow-le-pow_right}
use Rattle.std.specs.List.{All}
use Rattle.std.proofs.lemmas.List.Elements.{All-append, All-nil, All-cons}
use Rattle.std.proofs.lemmas.Nat.{pow-add, div-add-mod'}
use Rattle.std.proofs.lemmas.Bool.{cases_lt, eqb-true, eqb-false}
use Rattle.std.proofs.lemmas.Fmt.{decimal_is_IsNumeral_wide, length-decimal-le_wide}
use Rattle.std.proofs.lemmas.Int.Digits.{digits_value-lt, digits_value_push}
use Rattle.std.proofs.lemmas.Str.{digit_value_digit}
use Rattle.std.proofs.lemmas.Str.Parse.{digit_from_value}
use Rattle.scaled_numbers.specs.Decimal.{Numeral, no_exponent, spelled, IsNumber, IsScaled, raised, lowered}
use Rattle.scaled_numbers.specs.Canonical.{IsCanonical, IsCanonicalDecimal, padded, fraction_digits, behind_point, grains_text, IsDecimalByte}
use Rattle.scaled_numbers.proofs.Powers.{one-le-ten, split, cancel}
use Rattle.scaled_numbers.proofs.DigitLists.{value-append, zeros-all, zeros-value, one-quotient, same-digits, snoc, same-end, last-digit, no-zero-first, long-value}
use Rattle.scaled_numbers.proofs.Fractions.{wide, few_digits, length-padded}

-- ---- the digits behind the point

-- these digits, with zeros behind them up to this many places, write the number
record IsFraction (places n : ℕ) (digits : List ℕ) : Type 0 where
  all : AllDigits 10 digits
  within : length digits ≤ places
  value : digits_value 10 digits * 10 ^ (places - length digits) ≡ n
  no_zero_last : (front : List ℕ) → digits ≢ front ++ 48 ∷ []

padded-is : (places n : ℕ) → 0 < places → places ≤ 64 → n < 10 ^ places → n % 10 ≢ 0 → IsFraction places n (padded places n)
padded-is places n some within small odd =
    let k : ℕ = places - length (decimal n) in
    let zeros : List ℕ = replicate k 48 in
    let is = decimal_is_IsNumeral_wide n (wide places n within small) in
    let long : length (padded places n) ≡ places = length-padded places n (few_digits places n some within small) in
    let none : places - length (padded places n) ≡ 0 = omega (arith, long) in
    let (front, end) = last-digit n (wide places n within small) in
    let last : padded places n ≡ (zeros ++ front) ++ (48 + n % 10) ∷ [] = ap (λ ds. zeros ++ ds) end ∙ sym (append_assoc zeros front ((48 + n % 10) ∷ [])) in
    record {
      all = zeros-all k (decimal n) is.0.1;
      within = omega (arith, long);
      value = rw none (omega (arith, zeros-value k (decimal n), is.1));
      no_zero_last = λ more e. odd (omega (arith, same-end (zeros ++ front) more (48 + n % 10) 48 (sym last ∙ e)));
    }

tenth : (places n : ℕ) → n < 10 ^ suc places → n / 10 < 10 ^ places
tenth places n small = let p : 10 ^ suc places ≡ 10 ^ places * 10 = pow-suc 10 places in omega (arith, p, small)

fraction-is : (places n : ℕ) → places ≤ 64 → n < 10 ^ places → IsFraction places n (fraction_digits places n)
fraction-is zero n within small = record { all = tt; within = omega arith; value = omega arith; no_zero_last = λ front e. absurd (omega (arith, ap length e, length-append front (48 ∷ []))) }
fraction-is (suc places) n within small = by-last (eqb (n % 10) 0) refl (fraction-is places (n / 10) (omega arith) (tenth places n small))
  where
    by-last : (b : Bool) → eqb (n % 10) 0 ≡ b → IsFraction places (n / 10) (fraction_digits places (n / 10)) → IsFraction (suc places) n (fraction_digits (suc places) n)
    by-last true e h =
        let ends : n % 10 ≡ 0 = eqb-true (n % 10) 0 e in
        let digits : List ℕ = fraction_digits places (n / 10) in
        let more : suc places - length digits ≡ suc (places - length digits) = omega (arith, h.within) in
        let p : 10 ^ suc (places - length digits) ≡ 10 ^ (places - length digits) * 10 = pow-suc 10 (places - length digits) in
        rw e (record {
          all = h.all;
          within = omega (arith, h.within);
          value = rw (more, p) (omega (arith, h.value, ends));
          no_zero_last = h.no_zero_last;
        })
    by-last false e h = rw e (padded-is (suc places) n (omega arith) within small (eqb-false (n % 10) 0 e))

-- ---- what is written is canonical

-- a point stands where digits stand behind it
abbrev has_point : List ℕ → Bool
has_point [] = false
has_point (digit ∷ digits) = true

abbrev written : List ℕ → List ℕ → Numeral
written whole digits = record { whole = whole; point = has_point digits; fraction = digits; power = no_exponent }

written-text : (whole digits : List ℕ) → whole ++ behind_point digits ≡ spelled (written whole digits)
written-text whole [] = refl
written-text whole (digit ∷ digits) = ap (λ ds. whole ++ 46 ∷ ds) (sym (append-nil (digit ∷ digits)))

no-point : (digits : List ℕ) → has_point digits ≡ false → digits ≡ []
no-point [] e = refl
no-point (digit ∷ digits) e = absurd (true≢false e)

points : (digits : List ℕ) → has_point digits ≡ true ↔ (0 < length digits)
points [] = (λ e. absurd (true≢false (sym e)), λ lt. absurd (omega arith))
points (digit ∷ digits) = (λ e. omega arith, λ lt. refl)

-- a whole part and a fraction together
together : (whole digits u q p rest n : ℕ) → u ≡ q * p → digits * q ≡ rest → whole * u + rest ≡ n → (whole * p + digits) * u ≡ n * p
together whole digits u q p rest n parts shifted all = rw (← all, ← shifted, parts) (grind arith)

module _ (value scale : ℕ) (large : value < 10 ^ 64) (within : scale ≤ 64) where
  abbrev front : List ℕ
  front = decimal (value / 10 ^ scale)

  abbrev rest : ℕ
  rest = value % 10 ^ scale

  abbrev behind : List ℕ
  behind = fraction_digits scale rest

  some : 1 ≤ 10 ^ scale
  some = one-le-ten scale

  whole-wide : value / 10 ^ scale < 10 ^ 64
  whole-wide = omega (arith, div-le_self value (10 ^ scale), large)

  rest-small : rest < 10 ^ scale
  rest-small = mod-lt value some

  -- the text that is written is a canonical decimal of the value
  pub grains_text-canonical : IsCanonicalDecimal scale value (grains_text value scale)
  unfolding grains_text
  grains_text-canonical =
      let whole = decimal_is_IsNumeral_wide (value / 10 ^ scale) whole-wide in
      let h = fraction-is scale rest within rest-small in
      let powers : 10 ^ scale ≡ 10 ^ (scale - length behind) * 10 ^ length behind = split scale (length behind) h.within in
      let sum : digits_value 10 (front ++ behind) ≡ value / 10 ^ scale * 10 ^ length behind + digits_value 10 behind = value-append front behind ∙ ap (λ w. w * 10 ^ length behind + digits_value 10 behind) whole.1 in
      let parts = together (value / 10 ^ scale) (digits_value 10 behind) (10 ^ scale) (10 ^ (scale - length behind)) (10 ^ length behind) rest value powers h.value (div-add-mod' value (10 ^ scale)) in
      let worth : digits_value 10 (front ++ behind) * 10 ^ (scale + 0) ≡ value * 10 ^ (length behind + 0) =
      (let up : scale + 0 ≡ scale = omega arith in let down : length behind + 0 ≡ length behind = omega arith in rw (up, down, sum) parts) in
      record {
        numeral = written front behind;
        spells = record {
          number = record { whole = whole.0.1; fraction = h.all; some = omega (arith, whole.0.0); no_point = no-point behind; power = tt };
          bytes = written-text front behind;
        };
        value = worth;
        canonical = record {
          plain = refl;
          some_whole = whole.0.0;
          no_zero_first = λ digits. no-zero-first (value / 10 ^ scale) digits whole-wide;
          no_zero_last = h.no_zero_last;
          pointed = points behind;
        };
      }

-- ---- no other text is canonical

-- what is scaled without an exponent
plain-scaled : (scale v : ℕ) (n : Numeral) → IsCanonical n → IsScaled scale n v → digits_value 10 (n.whole ++ n.fraction) * 10 ^ scale ≡ v * 10 ^ length n.fraction
plain-scaled scale v n c e =
    let up : scale + raised n.power ≡ scale = rw c.plain (omega arith) in
    let down : length n.fraction + lowered n.power ≡ length n.fraction = rw c.plain (omega arith) in
    rw (up, down) at e

all-back : (xs ys : List ℕ) → AllDigits 10 (xs ++ ys) → AllDigits 10 ys
all-back [] ys a = a
all-back (c ∷ xs) ys a = all-back xs ys a.1

rotate : (v k p : ℕ) → v * (k * 10 * p) ≡ v * p * k * 10
rotate v k p = grind arith

turn : (a s k : ℕ) → a * s * k * 10 ≡ a * k * 10 * s
turn a s k = grind arith

-- a number with a fraction is no multiple of ten
not-tens : (n : Numeral) (k : ℕ) → IsNumber n → IsCanonical n → 0 < length n.fraction → digits_value 10 (n.whole ++ n.fraction) ≡ k * 10 → ⊥
not-tens n k h c some e =
    let (digits, end, is) = snoc n.fraction some in
    let all : AllDigits 10 (digits ++ end ∷ []) = subst (AllDigits 10) is h.fraction in
    let last : digit_value end < 10 = (all-back digits (end ∷ []) all).0 in
    let sum : digits_value 10 (n.whole ++ n.fraction) ≡ digits_value 10 (n.whole ++ digits) * 10 + digit_value end =
    ap (λ ds. digits_value 10 (n.whole ++ ds)) is ∙ ap (digits_value 10) (sym (append_assoc n.whole digits (end ∷ []))) ∙ digits_value_push 10 (n.whole ++ digits) end in
    let none : digit_value end ≡ 0 = omega (arith, sum, e, last) in
    let zero_last : end ≡ 48 = omega (arith, none, digit_value_digit end (digit_from_value end last)) in
    c.no_zero_last digits (is ∙ ap (λ d. digits ++ d ∷ []) zero_last)

-- of one value, no text has more places than another
no-more : (scale v : ℕ) (m n : Numeral) → IsNumber n → IsCanonical m → IsCanonical n → IsScaled scale m v → IsScaled scale n v → length m.fraction < length n.fraction → ⊥
no-more scale v m n h c d x y lt =
    let a : ℕ = digits_value 10 (m.whole ++ m.fraction) in
    let b : ℕ = digits_value 10 (n.whole ++ n.fraction) in
    let k : ℕ = length n.fraction - length m.fraction - 1 in
    let longer : 10 ^ length n.fraction ≡ 10 ^ k * 10 * 10 ^ length m.fraction =
    (let l : length n.fraction ≡ suc k + length m.fraction = omega arith in ap (λ i. 10 ^ i) l ∙ pow-add 10 (suc k) (length m.fraction) ∙ ap (λ p. p * 10 ^ length m.fraction) (pow-suc 10 k)) in
    let same : b * 10 ^ scale ≡ a * 10 ^ k * 10 * 10 ^ scale =
    plain-scaled scale v n d y ∙ ap (λ p. v * p) longer ∙ rotate v (10 ^ k) (10 ^ length m.fraction) ∙ ap (λ w. w * 10 ^ k * 10) (sym (plain-scaled scale v m c x)) ∙ turn a (10 ^ scale) (10 ^ k) in
    not-tens n (a * 10 ^ k) h d (omega arith) (cancel b (a * 10 ^ k * 10) (10 ^ scale) (one-le-ten scale) same)

-- digits without a needless zero in front are not more than others of the same value
no-longer : (xs ys : List ℕ) → AllDigits 10 xs → AllDigits 10 ys → 0 < length xs → ((rest : List ℕ) → ys ≡ 48 ∷ rest → rest ≡ []) → digits_value 10 xs ≡ digits_value 10 ys → length xs < length ys → ⊥
no-longer xs [] a b some c e lt = omega arith
no-longer xs (y ∷ ys) a b some c e lt =
    let not_zero : y ≢ 48 = λ z. omega (arith, ap length (c ys (ap (λ d. d ∷ ys) z)), some, lt) in
    let low = long-value y ys b.0 not_zero in
    let more : 10 ^ length xs ≤ 10 ^ length ys = pow-le-pow_right {n = 10} (omega arith) (omega (arith, lt)) in
    omega (arith, low, more, digits_value-lt 10 xs a, e)

same-length : (xs ys : List ℕ) → AllDigits 10 xs → AllDigits 10 ys → 0 < length xs → 0 < length ys → ((rest : List ℕ) → xs ≡ 48 ∷ rest → rest ≡ []) → ((rest : List ℕ) → ys ≡ 48 ∷ rest → rest ≡ []) → digits_value 10 xs ≡ digits_value 10 ys → length xs ≡ length ys
same-length xs ys a b some other c d e =
    elim (cases_lt (length xs) (length ys)) [
      | inl lt ↦ absurd (no-longer xs ys a b some d e lt)
      | inr ge ↦ elim (cases_lt (length ys) (length xs)) [ inl lt ↦ absurd (no-longer ys xs b a other c (sym e) lt) | inr le ↦ omega arith ]
    ]

same-point : (p q : Bool) (l : ℕ) → p ≡ true ↔ (0 < l) → q ≡ true ↔ (0 < l) → p ≡ q
same-point true true l a b = refl
same-point false false l a b = refl
same-point true false l a b = sym (b.1 (a.0 refl))
same-point false true l a b = a.1 (b.0 refl)

-- two canonical numbers of one value are spelled alike
pub one-canonical : (scale v : ℕ) (m n : Numeral) → IsNumber m → IsNumber n → IsCanonical m → IsCanonical n → IsScaled scale m v → IsScaled scale n v → spelled m ≡ spelled n
one-canonical scale v m n g h c d x y =
    let places : length m.fraction ≡ length n.fraction =
    elim (cases_lt (length m.fraction) (length n.fraction)) [
      | inl lt ↦ absurd (no-more scale v m n h c d x y lt)
      | inr ge ↦ elim (cases_lt (length n.fraction) (length m.fraction)) [ inl lt ↦ absurd (no-more scale v n m g d c y x lt) | inr le ↦ omega arith ]
    ] in
    let p : ℕ = 10 ^ length n.fraction in
    let values : digits_value 10 (m.whole ++ m.fraction) ≡ digits_value 10 (n.whole ++ n.fraction) =
    cancel _ _ (10 ^ scale) (one-le-ten scale) (plain-scaled scale v m c x ∙ ap (λ k. v * 10 ^ k) places ∙ sym (plain-scaled scale v n d y)) in
    let parts : digits_value 10 m.whole * p + digits_value 10 m.fraction ≡ digits_value 10 n.whole * p + digits_value 10 n.fraction =
    ap (λ k. digits_value 10 m.whole * 10 ^ k + digits_value 10 m.fraction) (sym places) ∙ sym (value-append m.whole m.fraction) ∙ values ∙ value-append n.whole n.fraction in
    let small : digits_value 10 m.fraction < p = rw (← places) (digits_value-lt 10 m.fraction g.fraction) in
    let wholes : digits_value 10 m.whole ≡ digits_value 10 n.whole = one-quotient _ _ p _ _ small (digits_value-lt 10 n.fraction h.fraction) parts in
    let rests : digits_value 10 m.fraction ≡ digits_value 10 n.fraction = omega (arith, parts, ap (λ k. k * p) wholes) in
    let whole : m.whole ≡ n.whole = same-digits m.whole n.whole g.whole h.whole (same-length m.whole n.whole g.whole h.whole c.some_whole d.some_whole c.no_zero_first d.no_zero_first wholes) wholes in
    let fraction : m.fraction ≡ n.fraction = same-digits m.fraction n.fraction g.fraction h.fraction places rests in
    let point : m.point ≡ n.point = same-point m.point n.point (length n.fraction) (subst (λ k. m.point ≡ true ↔ (0 < k)) places c.pointed) d.pointed in
    rw (whole, fraction, point, c.plain, d.plain) refl

-- a value has one canonical decimal
pub one-text : (scale v : ℕ) (s t : List ℕ) → IsCanonicalDecimal scale v s → IsCanonicalDecimal scale v t → s ≡ t
one-text scale v s t a b = a.spells.bytes ∙ one-canonical scale v a.numeral b.numeral a.spells.number b.spells.number a.canonical b.canonical a.value b.value ∙ sym b.spells.bytes

-- ---- its bytes

digit-bytes : (digits : List ℕ) → AllDigits 10 digits → All IsDecimalByte digits
digit-bytes [] a = All-nil IsDecimalByte
digit-bytes (c ∷ digits) a = All-cons IsDecimalByte c digits (inl (digit_from_value c a.0)) (digit-bytes digits a.1)

point-bytes : (digits : List ℕ) → AllDigits 10 digits → All IsDecimalByte (behind_point digits)
point-bytes [] a = All-nil IsDecimalByte
point-bytes (c ∷ digits) a = All-cons IsDecimalByte 46 (c ∷ digits) (inr refl) (digit-bytes (c ∷ digits) a)

point-length : (digits : List ℕ) → length (behind_point digits) ≤ length digits + 1
point-length [] = omega arith
point-length (c ∷ digits) = omega arith

module _ (value scale : ℕ) (large : value < 2 ^ 128) (within : scale ≤ 12) where
  wide-value : value < 10 ^ 64
  wide-value = omega (arith, large)

  behind-is : IsFraction scale (value % 10 ^ scale) (fraction_digits scale (value % 10 ^ scale))
  behind-is = fraction-is scale (value % 10 ^ scale) (omega arith) (rest-small value scale wide-value (omega arith))

  -- the text that is written is not empty
  pub text-some : 0 < length (grains_text value scale)
  unfolding grains_text
  text-some = omega (arith, (decimal_is_IsNumeral_wide (value / 10 ^ scale) (whole-wide value scale wide-value (omega arith))).0.0, length-append (decimal (value / 10 ^ scale)) (behind_point (fraction_digits scale (value % 10 ^ scale))))

  -- the text that is written fits the buffer
  pub text-short : length (grains_text value scale) ≤ 52
  unfolding grains_text
  text-short =
      let whole : length (decimal (value / 10 ^ scale)) ≤ 39 = length-decimal-le_wide 39 (value / 10 ^ scale) (omega arith) (omega (arith, div-le_self value (10 ^ scale), large)) (whole-wide value scale wide-value (omega arith)) in
      omega (arith, whole, behind-is.within, point-length (fraction_digits scale (value % 10 ^ scale)), length-append (decimal (value / 10 ^ scale)) (behind_point (fraction_digits scale (value % 10 ^ scale))))

  -- the text that is written has digits and a point alone, so that it is one word
  pub text-bytes : All IsDecimalByte (grains_text value scale)
  unfolding grains_text
  text-bytes =
      let whole = decimal_is_IsNumeral_wide (value / 10 ^ scale) (whole-wide value scale wide-value (omega arith)) in
      All-append IsDecimalByte (decimal (value / 10 ^ scale)) (behind_point (fraction_digits scale (value % 10 ^ scale))) (digit-bytes (decimal (value / 10 ^ scale)) whole.0.1) (point-bytes (fraction_digits scale (value % 10 ^ scale)) behind-is.all)

  -- a text is a canonical decimal of the value exactly where it is the one that is written
  pub canonical-only : (text : List ℕ) → IsCanonicalDecimal scale value text ↔ (text ≡ grains_text value scale)
  canonical-only text =
      let here = grains_text-canonical value scale wide-value (omega arith) in
      (λ h. one-text scale value text (grains_text value scale) h here, λ e. rw e here)
