-- Reading a number byte by byte, as a function: decimal_of is what a text is read as.
use Rattle.std.specs.Prelude.{ℕ, suc, ◌+◌, ◌*◌, ◌/◌, ◌^◌, nat_lt, Bool, true, false, ◌||◌, ◌==◌, if◌then◌else◌, List, [], ◌∷◌, ◌++◌, length, Option, Some, None, option_and_then, ◌%◌, Result, Ok, Err}
use Rattle.scaled_numbers.specs.declared.fault.NumberFault.{NumberFault}
use Rattle.scaled_numbers.specs.declared.fault.NumberFault.TheVariants as faults
use Rattle.std.specs.Char.{is_ascii_digit}
use Rattle.std.specs.Str.Parse.{digits_value}
use Rattle.scaled_numbers.specs.declared.scan.Glyph.{Glyph}
use Rattle.scaled_numbers.specs.declared.scan.Glyph.TheVariants as glyphs
use Rattle.scaled_numbers.specs.declared.scan.Stage.{Stage}
use Rattle.scaled_numbers.specs.declared.scan.Stage.TheVariants.{Start, Whole, Point, Fraction, Mark, Signed, Power}
use Rattle.scaled_numbers.specs.Decimal.{Numeral, Exponent, no_exponent, exponent, Sign, no_sign, plus, minus, raised, lowered}

-- what a byte may be in a number
abbrev pub glyph_of : ℕ → Glyph
glyph_of b =
    if is_ascii_digit b then glyphs.Digit else
    if b == 46 then glyphs.Dot else
    if b == 69 || b == 101 then glyphs.Letter else
    if b == 43 then glyphs.Plus else
    if b == 45 then glyphs.Minus else glyphs.Other

-- the stage that a byte leads to, if a number may go on with it
abbrev pub stage_after : Stage → Glyph → Option Stage
stage_after Start glyphs.Digit = Some Whole
stage_after Start glyphs.Dot = Some Point
stage_after Whole glyphs.Digit = Some Whole
stage_after Whole glyphs.Dot = Some Fraction
stage_after Whole glyphs.Letter = Some Mark
stage_after Point glyphs.Digit = Some Fraction
stage_after Fraction glyphs.Digit = Some Fraction
stage_after Fraction glyphs.Letter = Some Mark
stage_after Mark glyphs.Digit = Some Power
stage_after Mark glyphs.Plus = Some Signed
stage_after Mark glyphs.Minus = Some Signed
stage_after Signed glyphs.Digit = Some Power
stage_after Power glyphs.Digit = Some Power
stage_after s g = None

-- the sign that a byte is
abbrev pub sign_of : Glyph → Sign
sign_of glyphs.Plus = plus
sign_of glyphs.Minus = minus
sign_of g = no_sign

-- the exponent with a sign
abbrev pub with_sign : Glyph → Exponent → Exponent
with_sign g no_exponent = no_exponent
with_sign g (exponent mark sign digits) = exponent mark (sign_of g) digits

-- the exponent with one digit more
abbrev pub with_digit : ℕ → Exponent → Exponent
with_digit b no_exponent = no_exponent
with_digit b (exponent mark sign digits) = exponent mark sign (digits ++ b ∷ [])

-- a digit before the point
abbrev pub in_whole : Glyph → ℕ → Numeral → Numeral
in_whole glyphs.Digit b n = record n { whole = n.whole ++ b ∷ [] }
in_whole g b n = n

-- a digit of the fraction, or the point before it
abbrev pub in_fraction : Glyph → ℕ → Numeral → Numeral
in_fraction glyphs.Digit b n = record n { fraction = n.fraction ++ b ∷ [] }
in_fraction glyphs.Dot b n = record n { point = true }
in_fraction g b n = n

-- a digit of the exponent
abbrev pub in_power : Glyph → ℕ → Numeral → Numeral
in_power glyphs.Digit b n = record n { power = with_digit b n.power }
in_power g b n = n

-- the parts with one byte more, which leads to this stage
abbrev pub with_byte : Stage → Glyph → ℕ → Numeral → Numeral
with_byte Start g b n = n
with_byte Whole g b n = in_whole g b n
with_byte Point g b n = record n { point = true }
with_byte Fraction g b n = in_fraction g b n
with_byte Mark g b n = record n { power = exponent b no_sign [] }
with_byte Signed g b n = record n { power = with_sign g n.power }
with_byte Power g b n = in_power g b n

-- what has been read: the stage, and the parts so far
abbrev pub State : Type 0
State = Stage × Numeral

-- the state at that stage, with one byte more
abbrev pub goes_to : Glyph → ℕ → Numeral → Option Stage → Option State
goes_to g b n None = None
goes_to g b n (Some stage) = Some (stage, with_byte stage g b n)

-- the state after one byte more, if a number may go on with it
abbrev pub next : State → ℕ → Option State
next s b = goes_to (glyph_of b) b s.1 (stage_after s.0 (glyph_of b))

-- the state after these bytes, if they begin a number
unfoldable pub run : State → List ℕ → Option State
run s [] = Some s
run s (b ∷ bytes) = option_and_then (λ t. run t bytes) (next s b)

-- no parts
abbrev pub nothing : Numeral
nothing = record { whole = []; point = false; fraction = []; power = no_exponent }

-- the state before the first byte
abbrev pub start : State
start = (Start, nothing)

-- a number may end at this stage
abbrev pub is_last : Stage → Bool
is_last Whole = true
is_last Fraction = true
is_last Power = true
is_last s = false

-- ---- the value

-- a quotient below the limit, or why it is none
abbrev pub quotient : ℕ → ℕ → ℕ → Result ℕ NumberFault
quotient top bottom limit = if top % bottom == 0 then (if nat_lt (top / bottom) limit then Ok (top / bottom) else Err faults.TooLarge) else Err faults.Finer

-- what a number is at a scale
abbrev pub value_at : ℕ → Numeral → Result ℕ NumberFault
value_at scale n = quotient (digits_value 10 (n.whole ++ n.fraction) * 10 ^ (scale + raised n.power)) (10 ^ (length n.fraction + lowered n.power)) (10 ^ (12 + scale))

-- one more than is read behind this byte, or none where it fits nothing
abbrev pub stop_after : Option State → (State → ℕ) → ℕ
stop_after None g = 0
stop_after (Some s) g = suc (g s)

-- how many bytes begin a number, where not all do
unfoldable pub stop_place : State → List ℕ → ℕ
stop_place s [] = 0
stop_place s (b ∷ bytes) = stop_after (next s b) (λ t. stop_place t bytes)

-- what a text is read as, by the state at its end
abbrev pub decided : List ℕ → ℕ → Option State → Result ℕ NumberFault
decided text scale None = Err (faults.NotANumber (stop_place start text))
decided text scale (Some s) = if is_last s.0 then value_at scale s.1 else Err (faults.NotANumber (length text))

-- what a text is read as
unfoldable pub decimal_of : List ℕ → ℕ → Result ℕ NumberFault
decimal_of text scale = decided text scale (run start text)
