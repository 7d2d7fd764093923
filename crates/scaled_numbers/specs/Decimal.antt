-- Decimal numbers as a text spells them.
use Rattle.std.specs.Prelude.{◌≡◌, ℕ, ◌+◌, ◌*◌, ◌^◌, ◌<◌, ◌≤◌, Bool, true, false, ◌⊎◌, List, [], ◌∷◌, ◌++◌, length, take}
use Rattle.std.specs.Str.Parse.{AllDigits, digits_value}
use Rattle.scaled_numbers.specs.declared.fault.NumberFault.{NumberFault}
use Rattle.scaled_numbers.specs.declared.fault.NumberFault.TheVariants.{NotANumber, Finer, TooLarge}

-- the sign of an exponent as it is written
pub data Sign : Type 0 where
  no_sign : Sign
  plus : Sign
  minus : Sign

-- its `e` or `E`, sign and digits
pub data Exponent : Type 0 where
  no_exponent : Exponent
  exponent : ℕ → Sign → List ℕ → Exponent

-- the parts of a number as it is written
pub record Numeral : Type 0 where
  pub whole : List ℕ
  pub point : Bool
  pub fraction : List ℕ
  pub power : Exponent

-- the bytes of the point
abbrev pub point_text : Bool → List ℕ
point_text true = 46 ∷ []
point_text false = []

-- the bytes of the sign
abbrev pub sign_text : Sign → List ℕ
sign_text no_sign = []
sign_text plus = 43 ∷ []
sign_text minus = 45 ∷ []

-- the bytes of the exponent
abbrev pub exponent_text : Exponent → List ℕ
exponent_text no_exponent = []
exponent_text (exponent mark sign digits) = mark ∷ (sign_text sign ++ digits)

-- the bytes of a number
abbrev pub spelled : Numeral → List ℕ
spelled n = n.whole ++ (point_text n.point ++ (n.fraction ++ exponent_text n.power))

-- an `E` or `e`, and one digit or more behind its sign
abbrev pub IsExponent : Exponent → Type 0
IsExponent no_exponent = Unit {0}
IsExponent (exponent mark sign digits) = ((mark ≡ 69) ⊎ (mark ≡ 101)) × (0 < length digits) × AllDigits 10 digits

-- digits with a point among them, before or behind them, or without one, and then perhaps an exponent
pub record IsNumber (n : Numeral) : Type 0 where
  pub whole : AllDigits 10 n.whole
  pub fraction : AllDigits 10 n.fraction
  pub some : 0 < length n.whole + length n.fraction
  pub no_point : n.point ≡ false → n.fraction ≡ []
  pub power : IsExponent n.power

-- the text is this number as it is written
pub record Spells (text : List ℕ) (n : Numeral) : Type 0 where
  pub number : IsNumber n
  pub bytes : text ≡ spelled n

-- by how many tens an exponent multiplies
abbrev pub raised : Exponent → ℕ
raised no_exponent = 0
raised (exponent mark no_sign digits) = digits_value 10 digits
raised (exponent mark plus digits) = digits_value 10 digits
raised (exponent mark minus digits) = 0

-- by how many tens an exponent divides
abbrev pub lowered : Exponent → ℕ
lowered no_exponent = 0
lowered (exponent mark no_sign digits) = 0
lowered (exponent mark plus digits) = 0
lowered (exponent mark minus digits) = digits_value 10 digits

-- the value times 10 ^ scale is v, said with both sides multiplied by the tens that the value is divided by
abbrev pub IsScaled : ℕ → Numeral → ℕ → Type 0
IsScaled scale n v = digits_value 10 (n.whole ++ n.fraction) * 10 ^ (scale + raised n.power) ≡ v * 10 ^ (length n.fraction + lowered n.power)

-- the text spells a number that is v at this scale
pub record SpellsAt (text : List ℕ) (scale v : ℕ) : Type 0 where
  pub numeral : Numeral
  pub spells : Spells text numeral
  pub value : IsScaled scale numeral v

-- the text spells a number below 10 ^ 12, and that is v at this scale
pub record IsRead (text : List ℕ) (scale v : ℕ) : Type 0 where
  pub spelt : SpellsAt text scale v
  pub small : v < 10 ^ (12 + scale)

-- some number begins so
abbrev pub IsBegun : List ℕ → Type 0
IsBegun bytes = (more : List ℕ) × (n : Numeral) × Spells (bytes ++ more) n

-- up to this place the text begins a number; the byte there fits no continuation, or the text ends before the number does
pub record IsMisfit (text : List ℕ) (at : ℕ) : Type 0 where
  pub within : at ≤ length text
  pub begun : IsBegun (take at text)
  pub byte : at < length text → IsBegun (take (at + 1) text) → ⊥
  pub end : at ≡ length text → (n : Numeral) → Spells text n → ⊥

-- the text spells a number that is not whole at this scale
pub record IsFiner (text : List ℕ) (scale : ℕ) : Type 0 where
  pub numeral : Numeral
  pub spells : Spells text numeral
  pub no_value : (v : ℕ) → IsScaled scale numeral v → ⊥

-- the text spells a number that is whole at this scale, and 10 ^ 12 or more
pub record IsTooLarge (text : List ℕ) (scale : ℕ) : Type 0 where
  pub v : ℕ
  pub spelt : SpellsAt text scale v
  pub large : 10 ^ (12 + scale) ≤ v

-- the fault is told for its cause
abbrev pub IsFault : List ℕ → ℕ → NumberFault → Type 0
IsFault text scale (NotANumber at) = IsMisfit text at
IsFault text scale Finer = IsFiner text scale
IsFault text scale TooLarge = IsTooLarge text scale
