-- What is kept of a number that is being read.
use Rattle.std.proofs.Common.{◌≡◌, ℕ, ◌+◌, ◌-◌, ◌*◌, ◌^◌, ◌<◌, ◌≤◌, true, false, min, List, [], ◌∷◌, ◌++◌, length, take, Option, Some, None, refl, sym, ap, subst, ◌∙◌, append_assoc, arith, get_or}
use Rattle.std.specs.Char.{digit_value}
use Rattle.std.specs.Option.{option_and_then}
use Rattle.std.specs.Str.Parse.{digits_value}
use Rattle.std.proofs.lemmas.Option.{some_pair_parts}
use Rattle.std.proofs.lemmas.Str.{digit_value_digit}
use Rattle.std.proofs.lemmas.Str.Parse.{digit_from_value}
use Rattle.std.proofs.lemmas.List.{append-nil, length-append, take_more, take_all}
use Rattle.std.proofs.lemmas.Int.Digits.{digits_value_push}
use Rattle.scaled_numbers.specs.declared.scan.Scan.{Scan}
use Rattle.scaled_numbers.specs.declared.digits.Digits.{Digits}
use Rattle.scaled_numbers.specs.declared.scan.Glyph.{Glyph}
use Rattle.scaled_numbers.specs.declared.scan.Glyph.TheVariants as glyphs
use Rattle.scaled_numbers.specs.declared.scan.Stage.{Stage}
use Rattle.scaled_numbers.specs.declared.scan.Stage.TheVariants.{Start, Whole, Point, Fraction, Mark, Signed, Power}
use Rattle.scaled_numbers.specs.Decimal.{Numeral, no_sign, Spells, IsMisfit}
use Rattle.scaled_numbers.specs.Scanning.{glyph_of, stage_after, in_whole, in_fraction, in_power, with_byte, State, next, run, start, is_last}
use Rattle.scaled_numbers.specs.Kept.{Holds, Sees, Expects}
use Rattle.scaled_numbers.proofs.Grammar.{Tells, tells, Reached, run_reached, run_begun, begun_run, is_number, spelled_run, run-append}

-- a byte with the glyph of digits has the value of its code less 48
pub digit_is : (b : ℕ) (g : Glyph) → g ≡ glyph_of b → g ≡ glyphs.Digit → digit_value b ≡ b - 48
digit_is b g e f =
    let small : digit_value b < 10 = subst (λ (h : Glyph). Tells b h) (sym e ∙ f) (tells b) in
    omega (arith, digit_value_digit b (digit_from_value b small))

-- a digit before the point keeps what the scan knows of the number
pub keep_whole : (s : Scan) (d : Digits) (st : Stage) (n : Numeral) (b : ℕ) → n.fraction ≡ [] → digit_value b ≡ b - 48 → Holds d.core d.zeros (digits_value 10 (n.whole ++ n.fraction) * 10 + (b - 48)) → Sees s n
    → Sees (record s { stage = st; digits = d }) (in_whole glyphs.Digit b n)
keep_whole s d st n b e v h r =
    let m : digits_value 10 ((n.whole ++ b ∷ []) ++ n.fraction) ≡ digits_value 10 (n.whole ++ n.fraction) * 10 + (b - 48) = rw (e, append-nil, append-nil, digits_value_push, v) refl in
    record { digits = rw m h; places = r.places; power = r.power; negative = r.negative }

-- a digit behind the point keeps what the scan knows, with one place more
pub keep_fraction : (s : Scan) (d : Digits) (st : Stage) (n : Numeral) (b : ℕ) → digit_value b ≡ b - 48 → Holds d.core d.zeros (digits_value 10 (n.whole ++ n.fraction) * 10 + (b - 48)) → Sees s n
    → Sees (record s { stage = st; digits = d; places = s.places + 1 }) (in_fraction glyphs.Digit b n)
keep_fraction s d st n b v h r =
    let m : digits_value 10 (n.whole ++ (n.fraction ++ b ∷ [])) ≡ digits_value 10 (n.whole ++ n.fraction) * 10 + (b - 48) = rw (← append_assoc n.whole n.fraction (b ∷ []), digits_value_push, v) refl in
    record { digits = rw m h; places = omega (arith, r.places, length-append n.fraction (b ∷ [])); power = r.power; negative = r.negative }

-- a digit of the exponent keeps what the scan knows, with the exponent capped
pub keep_power : (s : Scan) (st : Stage) (n : Numeral) (b power : ℕ) → Expects Power n → digit_value b ≡ b - 48 → power ≡ min (s.power * 10 + (b - 48)) (10 ^ 9) → Sees s n
    → Sees (record s { stage = st; power = power }) (in_power glyphs.Digit b n)
keep_power s st n b power (mark, sign, digits, e) v p r =
    let was : s.power ≡ min (digits_value 10 digits) (10 ^ 9) = r.power ∙ rw e refl in
    record { digits = r.digits; places = r.places; power = rw e (omega (arith, p, was, v, digits_value_push 10 digits b)); negative = rw e (r.negative ∙ rw e refl) }

-- ---- the loop

abbrev ExpectsAt : Numeral → Option Stage → Type 0
ExpectsAt n None = Unit {0}
ExpectsAt n (Some st) = Expects st n

expects-at : (st : Stage) (g : Glyph) (n : Numeral) → Reached st n → ExpectsAt n (stage_after st g)
expects-at Start glyphs.Digit n r = rw r refl
expects-at Whole glyphs.Digit n r = r.fraction
expects-at Whole glyphs.Letter n r = r.power
expects-at Point glyphs.Digit n r = tt
expects-at Fraction glyphs.Letter n r = r.power
expects-at Mark glyphs.Digit n r = (r.mark, no_sign, [], r.power)
expects-at Mark glyphs.Plus n r = (r.mark, r.power)
expects-at Mark glyphs.Minus n r = (r.mark, r.power)
expects-at Signed glyphs.Digit n (sign, r) = (r.mark, sign, [], r.power)
expects-at Power glyphs.Digit n (sign, digits, some, r) = (r.mark, sign, digits, r.power)
expects-at s g n r = tt

run-push : (bytes : List ℕ) (b : ℕ) (t : State) → run start bytes ≡ Some t → run start (bytes ++ b ∷ []) ≡ next t b
unfolding run
run-push bytes b t e = rw (run-append bytes (b ∷ []) start, e) (last (next t b))
  where
    last : (o : Option State) → option_and_then (λ u. run u []) o ≡ o
    last None = refl
    last (Some u) = refl

-- where the code stands at a place of a text
abbrev pub IsAt : List ℕ → ℕ → Scan → Type 0
IsAt text i s = (n : Numeral) × (run start (take i text) ≡ Some (s.stage, n)) × Sees s n

run-to : (text : List ℕ) (i : ℕ) (st : Stage) (n : Numeral) → i < length text → run start (take i text) ≡ Some (st, n) → run start (take (i + 1) text) ≡ next (st, n) (get_or text i 0)
run-to text i st n lt e = ap (run start) (take_more text i 0 lt) ∙ run-push (take i text) (get_or text i 0) (st, n) e

-- a byte that the stage takes leads the scan to the next place
pub goes_on : (text : List ℕ) (i : ℕ) (s : Scan) (g : Glyph) (st : Stage) (after : Scan) → i < length text → IsAt text i s → g ≡ glyph_of (get_or text i 0) → stage_after s.stage g ≡ Some st → after.stage ≡ st
    → ((n : Numeral) → Expects st n → Sees s n → Sees after (with_byte st g (get_or text i 0) n)) → IsAt text (i + 1) after
goes_on text i s g st after lt (n, ran, sees) glyph leads same keeps =
    let r = run_reached (take i text) (s.stage, n) ran in
    let x : Expects st n = subst (λ (o : Option Stage). ExpectsAt n o) leads (expects-at s.stage g n r.0) in
    let go : next (s.stage, n) (get_or text i 0) ≡ Some (st, with_byte st g (get_or text i 0) n) = rw (← glyph, leads) refl in
    (with_byte st g (get_or text i 0) n, rw same (run-to text i s.stage n lt ran ∙ go), keeps n x sees)

-- a byte that the stage refuses is the place where the text stops being a number
pub misfits : (text : List ℕ) (i : ℕ) (s : Scan) (g : Glyph) → i < length text → IsAt text i s → g ≡ glyph_of (get_or text i 0) → stage_after s.stage g ≡ None → IsMisfit text i
misfits text i s g lt (n, ran, sees) glyph dead =
    let stop : next (s.stage, n) (get_or text i 0) ≡ None = rw (← glyph, dead) refl in
    record {
      within = omega arith;
      begun = run_begun (take i text) (s.stage, n) ran;
      byte = λ _ b. begun_run (take (i + 1) text) b (run-to text i s.stage n lt ran ∙ stop);
      end = λ e. absurd (omega arith);
    }

ran-all : (text : List ℕ) (i : ℕ) (t : State) → length text ≤ i → run start (take i text) ≡ Some t → run start text ≡ Some t
ran-all text i t le e = ap (run start) (sym (take_all i text le)) ∙ e

-- a text that ends where no number may end is no number, for want of more
pub ends_early : (text : List ℕ) (i : ℕ) (s : Scan) → length text ≤ i → IsAt text i s → is_last s.stage ≡ false → IsMisfit text (length text)
ends_early text i s le (n, ran, sees) open_end =
    let all = ran-all text i (s.stage, n) le ran in
    record {
      within = omega arith;
      begun = rw (take_all (length text) text (omega arith)) (run_begun text (s.stage, n) all);
      byte = λ lt. absurd (omega arith);
      end = λ _ m h.
          (let l = spelled_run text m h in
          let p = some_pair_parts l.stage s.stage m n (sym l.run ∙ all) in
          let apart : true ≡ false = sym l.last ∙ ap is_last p.0 ∙ open_end in
          cc);
    }

-- a text that ends where a number may end spells the number that was kept
pub ends_well : (text : List ℕ) (i : ℕ) (s : Scan) → length text ≤ i → IsAt text i s → is_last s.stage ≡ true → (n : Numeral) × Spells text n × Sees s n
ends_well text i s le (n, ran, sees) last =
    let r = run_reached text (s.stage, n) (ran-all text i (s.stage, n) le ran) in
    (n, record { number = is_number s.stage n r.0 last; bytes = r.1 }, sees)
