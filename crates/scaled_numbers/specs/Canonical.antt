-- Grains as a text writes them: the one decimal of a value at a scale.
use Rattle.std.specs.Prelude.{◌≡◌, ◌≢◌, ◌↔◌, ℕ, zero, suc, ◌/◌, ◌%◌, ◌-◌, ◌^◌, ◌<◌, ◌==◌, ◌⊎◌, true, if◌then◌else◌, List, [], ◌∷◌, ◌++◌, length, replicate, decimal}
use Rattle.std.specs.Int.{IsInRange}
use Rattle.scaled_numbers.specs.Decimal.{Numeral, no_exponent, Spells, IsScaled}

-- no exponent, no zero in front of other digits, no zero at the end of a fraction, and a point exactly with a fraction
pub record IsCanonical (n : Numeral) : Type 0 where
  pub plain : n.power ≡ no_exponent
  pub some_whole : 0 < length n.whole
  pub no_zero_first : (digits : List ℕ) → n.whole ≡ 48 ∷ digits → digits ≡ []
  pub no_zero_last : (digits : List ℕ) → n.fraction ≢ digits ++ 48 ∷ []
  pub pointed : n.point ≡ true ↔ (0 < length n.fraction)

-- the text is the canonical decimal of grains / 10 ^ scale
pub record IsCanonicalDecimal (scale grains : ℕ) (text : List ℕ) : Type 0 where
  pub numeral : Numeral
  pub spells : Spells text numeral
  pub value : IsScaled scale numeral grains
  pub canonical : IsCanonical numeral

-- the digits of a number, with zeros in front where it has fewer than this many places
abbrev pub padded : ℕ → ℕ → List ℕ
padded places n = replicate (places - length (decimal n)) 48 ++ decimal n

-- the digits of a number of this many places, zeros in front included, without the zeros at its end
abbrev pub fraction_digits : ℕ → ℕ → List ℕ
fraction_digits zero n = []
fraction_digits (suc places) n = if n % 10 == 0 then fraction_digits places (n / 10) else padded (suc places) n

-- a point and these digits; nothing where there are none
abbrev pub behind_point : List ℕ → List ℕ
behind_point [] = []
behind_point (digit ∷ digits) = 46 ∷ digit ∷ digits

-- the decimal of value / 10 ^ scale: no needless zeros, and no point for a whole value
unfoldable pub grains_text : ℕ → ℕ → List ℕ
grains_text value scale = decimal (value / 10 ^ scale) ++ behind_point (fraction_digits scale (value % 10 ^ scale))

-- a digit or a point
abbrev pub IsDecimalByte : ℕ → Type 0
IsDecimalByte byte = IsInRange 48 57 byte ⊎ (byte ≡ 46)
