-- What has been read byte by byte is the beginning of a number, and each number is read so.
use Rattle.std.proofs.Common.{◌≡◌, ℕ, ◌+◌, ◌<◌, Bool, true, false, cond, List, [], ◌∷◌, ◌++◌, length, Option, Some, None, refl, sym, ap, subst, ◌∙◌, append_assoc, ◌⊎◌, inl, inr, arith}
use Rattle.std.specs.Prelude.{◌||◌}
use Rattle.std.specs.Option.{option_and_then}
use Rattle.std.specs.Char.{digit_value, is_ascii_digit}
use Rattle.std.specs.Str.Parse.{AllDigits}
use Rattle.std.proofs.lemmas.Bool.{eqb-true}
use Rattle.std.proofs.lemmas.Option.{some_pair_parts}
use Rattle.std.proofs.lemmas.Bool.Decides.{nat_tests}
use Rattle.std.proofs.lemmas.List.{append-nil, length-append}
use Rattle.std.proofs.lemmas.Int.Digits.{digits_push}
use Rattle.scaled_numbers.specs.declared.scan.Glyph.{Glyph}
use Rattle.scaled_numbers.specs.declared.scan.Glyph.TheVariants as glyphs
use Rattle.scaled_numbers.specs.declared.scan.Stage.{Stage}
use Rattle.scaled_numbers.specs.declared.scan.Stage.TheVariants.{Start, Whole, Point, Fraction, Mark, Signed, Power}
use Rattle.scaled_numbers.specs.Decimal.{Numeral, Exponent, no_exponent, exponent, Sign, no_sign, plus, minus, exponent_text, spelled, IsExponent, IsNumber, Spells, IsBegun}
use Rattle.scaled_numbers.specs.Scanning.{glyph_of, stage_after, with_byte, State, goes_to, next, run, nothing, start, is_last}

-- ---- what the kind of a byte says

-- what a byte is, from the glyph that it stands for
abbrev pub Tells : ℕ → Glyph → Type 0
Tells b glyphs.Digit = digit_value b < 10
Tells b glyphs.Dot = b ≡ 46
Tells b glyphs.Letter = (b ≡ 69) ⊎ (b ≡ 101)
Tells b glyphs.Plus = b ≡ 43
Tells b glyphs.Minus = b ≡ 45
Tells b glyphs.Other = Unit {0}

tells-chain : (b : ℕ) (x1 x2 x3 x4 x5 x6 : Bool) → (x1 ≡ true → digit_value b < 10) → (x2 ≡ true → b ≡ 46) → (x3 ≡ true → b ≡ 69) → (x4 ≡ true → b ≡ 101) → (x5 ≡ true → b ≡ 43) → (x6 ≡ true → b ≡ 45)
    → Tells b (cond x1 glyphs.Digit (cond x2 glyphs.Dot (cond (x3 || x4) glyphs.Letter (cond x5 glyphs.Plus (cond x6 glyphs.Minus glyphs.Other)))))
tells-chain b true x2 x3 x4 x5 x6 h1 h2 h3 h4 h5 h6 = h1 refl
tells-chain b false true x3 x4 x5 x6 h1 h2 h3 h4 h5 h6 = h2 refl
tells-chain b false false true x4 x5 x6 h1 h2 h3 h4 h5 h6 = inl (h3 refl)
tells-chain b false false false true x5 x6 h1 h2 h3 h4 h5 h6 = inr (h4 refl)
tells-chain b false false false false true x6 h1 h2 h3 h4 h5 h6 = h5 refl
tells-chain b false false false false false true h1 h2 h3 h4 h5 h6 = h6 refl
tells-chain b false false false false false false h1 h2 h3 h4 h5 h6 = tt

digit-below : (b : ℕ) → is_ascii_digit b ≡ true → digit_value b < 10
digit-below b e = grind (arith, nat_tests)

is-digit : (b : ℕ) → digit_value b < 10 → is_ascii_digit b ≡ true
is-digit b e = grind (arith, nat_tests)

-- each byte is what its glyph says
pub tells : (b : ℕ) → Tells b (glyph_of b)
tells b = tells-chain b _ _ _ _ _ _ (digit-below b) (eqb-true b 46) (eqb-true b 69) (eqb-true b 101) (eqb-true b 43) (eqb-true b 45)

-- a digit has the glyph of digits
pub glyph-digit : (b : ℕ) → digit_value b < 10 → glyph_of b ≡ glyphs.Digit
glyph-digit b e = rw (is-digit b e) refl

glyph-letter : (b : ℕ) → (b ≡ 69) ⊎ (b ≡ 101) → glyph_of b ≡ glyphs.Letter
glyph-letter b (inl e) = rw e refl
glyph-letter b (inr e) = rw e refl

-- ---- what is known at each stage

-- whole digits and fraction without an exponent: at least one digit, and a fraction only behind a point
pub record IsMantissa (n : Numeral) : Type 0 where
  pub whole : AllDigits 10 n.whole
  pub fraction : AllDigits 10 n.fraction
  pub some : 0 < length n.whole + length n.fraction
  pub no_point : n.point ≡ false → n.fraction ≡ []

-- some whole digits are read and nothing behind them
pub record HasWhole (n : Numeral) : Type 0 where
  pub digits : AllDigits 10 n.whole
  pub some : 0 < length n.whole
  pub point : n.point ≡ false
  pub fraction : n.fraction ≡ []
  pub power : n.power ≡ no_exponent

-- a point is read and at least one digit on one of its sides
pub record HasFraction (n : Numeral) : Type 0 where
  pub whole : AllDigits 10 n.whole
  pub fraction : AllDigits 10 n.fraction
  pub some : 0 < length n.whole + length n.fraction
  pub point : n.point ≡ true
  pub power : n.power ≡ no_exponent

-- an exponent is read up to here: its letter, its sign and these digits
pub record HasPower (n : Numeral) (sign : Sign) (digits : List ℕ) : Type 0 where
  pub before : IsMantissa n
  pub mark : ℕ
  pub letter : (mark ≡ 69) ⊎ (mark ≡ 101)
  pub power : n.power ≡ exponent mark sign digits
  pub all : AllDigits 10 digits

-- the number of which a point alone is read
abbrev pub after_point : Numeral
after_point = record { whole = []; point = true; fraction = []; power = no_exponent }

-- which numbers each stage of reading can have behind it
abbrev pub Reached : Stage → Numeral → Type 0
Reached Start n = n ≡ nothing
Reached Whole n = HasWhole n
Reached Point n = n ≡ after_point
Reached Fraction n = HasFraction n
Reached Mark n = HasPower n no_sign []
Reached Signed n = (sign : Sign) × HasPower n sign []
Reached Power n = (sign : Sign) × (digits : List ℕ) × (0 < length digits) × HasPower n sign digits

-- ---- one byte

abbrev Leads : ℕ → Numeral → Glyph → Option Stage → Type 0
Leads b n g None = Unit {0}
Leads b n g (Some st) = Reached st (with_byte st g b n) × (spelled (with_byte st g b n) ≡ spelled n ++ b ∷ [])

step : (st : Stage) (g : Glyph) (b : ℕ) (n : Numeral) → Tells b g → Reached st n → Leads b n g (stage_after st g)
step Start glyphs.Digit b n t r = rw r (record { digits = (t, tt); some = omega arith; point = refl; fraction = refl; power = refl }, refl)
step Start glyphs.Dot b n t r = rw (r, t) (refl, refl)
step Whole glyphs.Digit b n t r = (
  record { digits = digits_push 10 n.whole b r.digits t; some = omega (arith, length-append n.whole (b ∷ [])); point = r.point; fraction = r.fraction; power = r.power },
  rw (r.point, r.fraction, r.power) (simp append-nil),
)
step Whole glyphs.Dot b n t r = (
  record { whole = r.digits; fraction = rw r.fraction tt; some = omega (arith, r.some); point = refl; power = r.power },
  rw (r.point, r.fraction, r.power, t) (simp append-nil),
)
step Whole glyphs.Letter b n t r = (
  record { before = record { whole = r.digits; fraction = rw r.fraction tt; some = omega (arith, r.some); no_point = λ e. r.fraction }; mark = b; letter = t; power = refl; all = tt },
  rw (r.point, r.fraction, r.power) (simp append-nil),
)
step Point glyphs.Digit b n t r = rw r (record { whole = tt; fraction = (t, tt); some = omega arith; point = refl; power = refl }, refl)
step Fraction glyphs.Digit b n t r = (
  record { whole = r.whole; fraction = digits_push 10 n.fraction b r.fraction t; some = omega (arith, r.some, length-append n.fraction (b ∷ [])); point = r.point; power = r.power },
  rw (r.point, r.power) (simp (append-nil, append_assoc)),
)
step Fraction glyphs.Letter b n t r = (
  record { before = record { whole = r.whole; fraction = r.fraction; some = r.some; no_point = λ e. absurd (let p : true ≡ false = sym r.point ∙ e in cc) }; mark = b; letter = t; power = refl; all = tt },
  rw (r.point, r.power) (simp (append-nil, append_assoc)),
)
step Mark glyphs.Digit b n t r = (
  (no_sign, b ∷ [], omega arith, record { before = record { whole = r.before.whole; fraction = r.before.fraction; some = r.before.some; no_point = r.before.no_point }; mark = r.mark; letter = r.letter; power = rw r.power refl; all = (t, tt) }),
  rw r.power (simp append_assoc),
)
step Mark glyphs.Plus b n t r = (
  (plus, record { before = record { whole = r.before.whole; fraction = r.before.fraction; some = r.before.some; no_point = r.before.no_point }; mark = r.mark; letter = r.letter; power = rw r.power refl; all = tt }),
  rw (r.power, t) (simp append_assoc),
)
step Mark glyphs.Minus b n t r = (
  (minus, record { before = record { whole = r.before.whole; fraction = r.before.fraction; some = r.before.some; no_point = r.before.no_point }; mark = r.mark; letter = r.letter; power = rw r.power refl; all = tt }),
  rw (r.power, t) (simp append_assoc),
)
step Signed glyphs.Digit b n t (sign, r) = (
  (sign, b ∷ [], omega arith, record { before = record { whole = r.before.whole; fraction = r.before.fraction; some = r.before.some; no_point = r.before.no_point }; mark = r.mark; letter = r.letter; power = rw r.power refl; all = (t, tt) }),
  rw r.power (simp (append-nil, append_assoc)),
)
step Power glyphs.Digit b n t (sign, digits, some, r) = (
  (
    sign,
    digits ++ b ∷ [],
    omega (arith, length-append digits (b ∷ [])),
    record { before = record { whole = r.before.whole; fraction = r.before.fraction; some = r.before.some; no_point = r.before.no_point }; mark = r.mark; letter = r.letter; power = rw r.power refl; all = digits_push 10 digits b r.all t },
  ),
  rw r.power (simp append_assoc),
)
step s g b n t r = tt

-- ---- many bytes

-- what these bytes led to
pub record Leaves (st : Stage) (n : Numeral) (bytes : List ℕ) (m : Numeral) : Type 0 where
  pub reached : Reached st m
  pub text : spelled m ≡ spelled n ++ bytes

abbrev LeadsTo : ℕ → Numeral → Option State → Type 0
LeadsTo b n None = Unit {0}
LeadsTo b n (Some s) = Leaves s.0 n (b ∷ []) s.1

one-byte-by : (b : ℕ) (n : Numeral) (g : Glyph) (o : Option Stage) → Leads b n g o → LeadsTo b n (goes_to g b n o)
one-byte-by b n g None h = tt
one-byte-by b n g (Some st) h = record { reached = h.0; text = h.1 }

one-byte : (s : State) (b : ℕ) → Reached s.0 s.1 → LeadsTo b s.1 (next s b)
one-byte s b r = one-byte-by b s.1 (glyph_of b) (stage_after s.0 (glyph_of b)) (step s.0 (glyph_of b) b s.1 (tells b) r)

abbrev Ends : List ℕ → Numeral → Option State → Type 0
Ends bytes n None = Unit {0}
Ends bytes n (Some s) = Leaves s.0 n bytes s.1

weaken : (b : ℕ) (bytes : List ℕ) (n m : Numeral) (o : Option State) → spelled m ≡ spelled n ++ b ∷ [] → Ends bytes m o → Ends (b ∷ bytes) n o
weaken b bytes n m None e h = tt
weaken b bytes n m (Some s) e h = record { reached = h.reached; text = h.text ∙ ap (λ (t : List ℕ). t ++ bytes) e ∙ append_assoc (spelled n) (b ∷ []) bytes }

run-ends-from : (b : ℕ) (bytes : List ℕ) (n : Numeral) (o : Option State) → ((s : State) → Reached s.0 s.1 → Ends bytes s.1 (run s bytes)) → LeadsTo b n o → Ends (b ∷ bytes) n (option_and_then (λ t. run t bytes) o)
run-ends-from b bytes n None later h = tt
run-ends-from b bytes n (Some s) later h = weaken b bytes n s.1 (run s bytes) h.text (later s h.reached)

run-ends : (bytes : List ℕ) (s : State) → Reached s.0 s.1 → Ends bytes s.1 (run s bytes)
unfolding run
run-ends [] s r = record { reached = r; text = sym (append-nil (spelled s.1)) }
run-ends (b ∷ bytes) s r = run-ends-from b bytes s.1 (next s b) (λ t q. run-ends bytes t q) (one-byte s b r)

-- a run from the start reaches a number of its stage, which spells the bytes read
pub run_reached : (bytes : List ℕ) (t : State) → run start bytes ≡ Some t → Reached t.0 t.1 × (bytes ≡ spelled t.1)
run_reached bytes t e =
    let h : Ends bytes nothing (Some t) = subst (λ (o : Option State). Ends bytes nothing o) e (run-ends bytes start refl) in
    (h.reached, sym h.text)

-- ---- what has been reached is a number, or begins one

-- a run that may end at its stage has read a number
pub is_number : (st : Stage) (n : Numeral) → Reached st n → is_last st ≡ true → IsNumber n
is_number Start n r e = absurd cc
is_number Whole n r e = record { whole = r.digits; fraction = rw r.fraction tt; some = omega (arith, r.some); no_point = λ p. r.fraction; power = rw r.power tt }
is_number Point n r e = absurd cc
is_number Fraction n r e = record { whole = r.whole; fraction = r.fraction; some = r.some; no_point = λ p. absurd (let q : true ≡ false = sym r.point ∙ p in cc); power = rw r.power tt }
is_number Mark n r e = absurd cc
is_number Signed n r e = absurd cc
is_number Power n (sign, digits, some, r) e = record { whole = r.before.whole; fraction = r.before.fraction; some = r.before.some; no_point = r.before.no_point; power = rw r.power (r.letter, some, r.all) }

-- with these bytes behind it
pub record Goes (n : Numeral) : Type 0 where
  pub more : List ℕ
  pub to : Numeral
  pub spells : Spells (spelled n ++ more) to

whole_as_it_is : (n : Numeral) → IsNumber n → Goes n
whole_as_it_is n h = record { more = []; to = n; spells = record { number = h; bytes = append-nil (spelled n) } }

-- a zero goes into the exponent
with_zero : (n : Numeral) (sign : Sign) → HasPower n sign [] → Goes n
with_zero n sign r = record {
  more = 48 ∷ [];
  to = record n { power = exponent r.mark sign (48 ∷ []) };
  spells = record {
    number = record { whole = r.before.whole; fraction = r.before.fraction; some = r.before.some; no_point = r.before.no_point; power = (r.letter, omega arith, (omega arith, tt)) };
    bytes = rw r.power (simp (append-nil, append_assoc));
  };
}

goes : (st : Stage) (n : Numeral) → Reached st n → Goes n
goes Start n r = rw r (record { more = 48 ∷ []; to = record { whole = 48 ∷ []; point = false; fraction = []; power = no_exponent }; spells = record { number = record { whole = (omega arith, tt); fraction = tt; some = omega arith; no_point = λ e. refl; power = tt }; bytes = refl } })
goes Whole n r = whole_as_it_is n (is_number Whole n r refl)
goes Point n r = rw r (record { more = 48 ∷ []; to = record { whole = []; point = true; fraction = 48 ∷ []; power = no_exponent }; spells = record { number = record { whole = tt; fraction = (omega arith, tt); some = omega arith; no_point = λ e. absurd cc; power = tt }; bytes = refl } })
goes Fraction n r = whole_as_it_is n (is_number Fraction n r refl)
goes Mark n r = with_zero n no_sign r
goes Signed n (sign, r) = with_zero n sign r
goes Power n r = whole_as_it_is n (is_number Power n r refl)

-- bytes that a run goes through begin a number
pub run_begun : (bytes : List ℕ) (t : State) → run start bytes ≡ Some t → IsBegun bytes
run_begun bytes t e =
    let r = run_reached bytes t e in
    let g = goes t.0 t.1 r.0 in
    rw r.1 (g.more, g.to, g.spells)

-- ---- each number is read

-- a run over two texts goes over the one and then the other
pub run-append : (xs ys : List ℕ) (s : State) → run s (xs ++ ys) ≡ option_and_then (λ t. run t ys) (run s xs)
unfolding run
run-append [] ys s = refl
run-append (b ∷ xs) ys s = later xs ys (next s b) (λ t. run-append xs ys t)
  where
    later : (xs ys : List ℕ) (o : Option State) → ((t : State) → run t (xs ++ ys) ≡ option_and_then (λ u. run u ys) (run t xs)) → option_and_then (λ t. run t (xs ++ ys)) o ≡ option_and_then (λ u. run u ys) (option_and_then (λ t. run t xs) o)
    later xs ys None h = refl
    later xs ys (Some t) h = h t

run-then : (xs ys : List ℕ) (s t : State) (r : Option State) → run s xs ≡ Some t → run t ys ≡ r → run s (xs ++ ys) ≡ r
run-then xs ys s t r e f = rw (run-append xs ys s, e) f

abbrev parts : List ℕ → Bool → List ℕ → Exponent → Numeral
parts w p f e = record { whole = w; point = p; fraction = f; power = e }

whole-run : (ds w : List ℕ) (p : Bool) (f : List ℕ) (e : Exponent) → AllDigits 10 ds → run (Whole, parts w p f e) ds ≡ Some (Whole, parts (w ++ ds) p f e)
unfolding run
whole-run [] w p f e h = rw append-nil refl
whole-run (d ∷ ds) w p f e h = rw (glyph-digit d h.0) (whole-run ds (w ++ d ∷ []) p f e h.1 ∙ ap (λ (x : List ℕ). Some (Whole, parts x p f e)) (append_assoc w (d ∷ []) ds))

fraction-run : (ds w : List ℕ) (p : Bool) (f : List ℕ) (e : Exponent) → AllDigits 10 ds → run (Fraction, parts w p f e) ds ≡ Some (Fraction, parts w p (f ++ ds) e)
unfolding run
fraction-run [] w p f e h = rw append-nil refl
fraction-run (d ∷ ds) w p f e h = rw (glyph-digit d h.0) (fraction-run ds w p (f ++ d ∷ []) e h.1 ∙ ap (λ (x : List ℕ). Some (Fraction, parts w p x e)) (append_assoc f (d ∷ []) ds))

power-run : (ds w : List ℕ) (p : Bool) (f : List ℕ) (m : ℕ) (s : Sign) (q : List ℕ) → AllDigits 10 ds → run (Power, parts w p f (exponent m s q)) ds ≡ Some (Power, parts w p f (exponent m s (q ++ ds)))
unfolding run
power-run [] w p f m s q h = rw append-nil refl
power-run (d ∷ ds) w p f m s q h = rw (glyph-digit d h.0) (power-run ds w p f m s (q ++ d ∷ []) h.1 ∙ ap (λ (x : List ℕ). Some (Power, parts w p f (exponent m s x))) (append_assoc q (d ∷ []) ds))

-- where a run ends with the whole number
pub record Lands (s : State) (bytes : List ℕ) (n : Numeral) : Type 0 where
  pub stage : Stage
  pub last : is_last stage ≡ true
  pub run : run s bytes ≡ Some (stage, n)

exponent-run : (st : Stage) (w : List ℕ) (p : Bool) (f : List ℕ) (e : Exponent) → is_last st ≡ true → stage_after st glyphs.Letter ≡ Some Mark → IsExponent e → Lands (st, parts w p f no_exponent) (exponent_text e) (parts w p f e)
unfolding run
exponent-run st w p f no_exponent last mark h = record { stage = st; last = last; run = refl }
exponent-run st w p f (exponent m sign []) last mark h = absurd (omega (arith, h.1))
exponent-run st w p f (exponent m no_sign (d ∷ ds)) last mark h = record { stage = Power; last = refl; run = rw (glyph-letter m h.0, mark, glyph-digit d h.2.0) (power-run ds w p f m no_sign (d ∷ []) h.2.1) }
exponent-run st w p f (exponent m plus (d ∷ ds)) last mark h = record { stage = Power; last = refl; run = rw (glyph-letter m h.0, mark, glyph-digit d h.2.0) (power-run ds w p f m plus (d ∷ []) h.2.1) }
exponent-run st w p f (exponent m minus (d ∷ ds)) last mark h = record { stage = Power; last = refl; run = rw (glyph-letter m h.0, mark, glyph-digit d h.2.0) (power-run ds w p f m minus (d ∷ []) h.2.1) }

start-whole : (d : ℕ) (ds : List ℕ) → AllDigits 10 (d ∷ ds) → run start (d ∷ ds) ≡ Some (Whole, parts (d ∷ ds) false [] no_exponent)
unfolding run
start-whole d ds h = rw (glyph-digit d h.0) (whole-run ds (d ∷ []) false [] no_exponent h.1)

start-point : (d : ℕ) (ds : List ℕ) → AllDigits 10 (d ∷ ds) → run start (46 ∷ d ∷ ds) ≡ Some (Fraction, parts [] true (d ∷ ds) no_exponent)
unfolding run
start-point d ds h = rw (glyph-digit d h.0) (fraction-run ds [] true (d ∷ []) no_exponent h.1)

point-run : (w ds : List ℕ) → AllDigits 10 ds → run (Whole, parts w false [] no_exponent) (46 ∷ ds) ≡ Some (Fraction, parts w true ds no_exponent)
unfolding run
point-run w ds h = fraction-run ds w true [] no_exponent h

lands-after : (s t : State) (xs ys bytes : List ℕ) (n : Numeral) → run s xs ≡ Some t → Lands t ys n → bytes ≡ xs ++ ys → Lands s bytes n
lands-after s t xs ys bytes n e l b = rw b (record { stage = l.stage; last = l.last; run = run-then xs ys s t (Some (l.stage, n)) e l.run })

number-run-by : (w : List ℕ) (p : Bool) (f : List ℕ) (e : Exponent) → IsNumber (parts w p f e) → Lands start (spelled (parts w p f e)) (parts w p f e)
number-run-by [] false f e h = absurd (omega (arith, h.some, ap length (h.no_point refl)))
number-run-by (d ∷ ds) false f e h =
    rw (h.no_point refl) (lands-after start (Whole, parts (d ∷ ds) false [] no_exponent) (d ∷ ds) (exponent_text e) _ (parts (d ∷ ds) false [] e) (start-whole d ds h.whole) (exponent-run Whole (d ∷ ds) false [] e refl refl h.power) refl)
number-run-by [] true [] e h = absurd (omega (arith, h.some))
number-run-by [] true (d ∷ ds) e h =
    lands-after start (Fraction, parts [] true (d ∷ ds) no_exponent) (46 ∷ d ∷ ds) (exponent_text e) _ (parts [] true (d ∷ ds) e) (start-point d ds h.fraction) (exponent-run Fraction [] true (d ∷ ds) e refl refl h.power) refl
number-run-by (d ∷ ds) true f e h =
    lands-after start (Fraction, parts (d ∷ ds) true f no_exponent) ((d ∷ ds) ++ (46 ∷ f)) (exponent_text e) _ (parts (d ∷ ds) true f e)
    (run-then (d ∷ ds) (46 ∷ f) start (Whole, parts (d ∷ ds) false [] no_exponent) (Some (Fraction, parts (d ∷ ds) true f no_exponent)) (start-whole d ds h.whole) (point-run (d ∷ ds) f h.fraction))
    (exponent-run Fraction (d ∷ ds) true f e refl refl h.power)
    (sym (append_assoc (d ∷ ds) (46 ∷ f) (exponent_text e)))

-- each number is run through to its end
pub number_run : (n : Numeral) → IsNumber n → Lands start (spelled n) n
number_run n h = number-run-by n.whole n.point n.fraction n.power h

-- a text that spells a number is run through to it
pub spelled_run : (text : List ℕ) (n : Numeral) → Spells text n → Lands start text n
spelled_run text n h = rw h.bytes (number_run n h.number)

-- a text spells one number
pub one_numeral : (text : List ℕ) (m n : Numeral) → Spells text m → Spells text n → m ≡ n
one_numeral text m n a b =
    let x = spelled_run text m a in
    let y = spelled_run text n b in
    let e : Some (x.stage, m) ≡ Some (y.stage, n) = sym x.run ∙ y.run in
    (some_pair_parts x.stage y.stage m n e).1

-- what no run goes through begins no number
pub begun_run : (bytes : List ℕ) → IsBegun bytes → run start bytes ≡ None → ⊥
begun_run bytes (more, n, h) none =
    let l = spelled_run (bytes ++ more) n h in
    let dead : run start (bytes ++ more) ≡ None = rw (run-append bytes more start, none) refl in
    let e : None ≡ Some (l.stage, n) = sym dead ∙ l.run in
    cc
