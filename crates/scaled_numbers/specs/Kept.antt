-- What the code keeps of a number that it reads or writes. No public clause cites this module.
use Rattle.std.specs.Prelude.{◌≡◌, ℕ, zero, suc, ◌+◌, ◌*◌, ◌^◌, ◌<◌, ◌≤◌, ◌%◌, ◌⊎◌, Bool, true, false, List, [], ◌++◌, length, min, Result, Ok, Err}
use Rattle.std.specs.Str.Parse.{digits_value}
use Rattle.scaled_numbers.specs.declared.scan.Scan.{Scan}
use Rattle.scaled_numbers.specs.declared.fault.NumberFault.{NumberFault}
use Rattle.scaled_numbers.specs.declared.fault.NumberFault.TheVariants as faults
use Rattle.scaled_numbers.specs.declared.scan.Stage.{Stage}
use Rattle.scaled_numbers.specs.declared.scan.Stage.TheVariants.{Start, Whole, Point, Fraction, Mark, Signed, Power}
use Rattle.scaled_numbers.specs.Decimal.{Numeral, Exponent, no_exponent, exponent, Sign, no_sign, plus, minus}
use Rattle.scaled_numbers.specs.Canonical.{padded}

-- the number n is a core that no zero ends, and zeros behind it; the core is kept up to a bound
pub record Holds (core zeros n : ℕ) : Type 0 where
  pub exact : ℕ
  pub kept : core ≡ min exact (10 ^ 18)
  pub value : n ≡ exact * 10 ^ zeros
  pub last : 0 < exact → 0 < exact % 10

-- the exponent without its sign, 0 where there is none
abbrev pub power_of : Exponent → ℕ
power_of no_exponent = 0
power_of (exponent mark sign digits) = digits_value 10 digits

-- a minus stands in front of the exponent's digits
abbrev pub is_minus : Sign → Bool
is_minus no_sign = false
is_minus plus = false
is_minus minus = true

-- the exponent has a minus
abbrev pub is_negative : Exponent → Bool
is_negative no_exponent = false
is_negative (exponent mark sign digits) = is_minus sign

-- what is kept stands for these parts
pub record Sees (s : Scan) (n : Numeral) : Type 0 where
  pub digits : Holds s.digits.core s.digits.zeros (digits_value 10 (n.whole ++ n.fraction))
  pub places : s.places ≡ length n.fraction
  pub power : s.power ≡ min (power_of n.power) (10 ^ 9)
  pub negative : s.negative ≡ is_negative n.power

-- what the parts are like where a byte leads to this stage
abbrev pub Expects : Stage → Numeral → Type 0
Expects Start n = Unit {0}
Expects Whole n = n.fraction ≡ []
Expects Point n = Unit {0}
Expects Fraction n = Unit {0}
Expects Mark n = n.power ≡ no_exponent
Expects Signed n = (mark : ℕ) × (n.power ≡ exponent mark no_sign [])
Expects Power n = (mark : ℕ) × (sign : Sign) × (digits : List ℕ) × (n.power ≡ exponent mark sign digits)

-- kept exponents stand for the exact ones: they are the same, or both are too far apart for it to matter
abbrev pub Agrees : ℕ → ℕ → ℕ → ℕ → Type 0
Agrees up down exact_up exact_down =
    ((up ≡ exact_up) × (down ≡ exact_down))
    ⊎ ((down ≡ exact_down) × (down + 18 ≤ up) × (up ≤ exact_up))
    ⊎ ((up ≡ exact_up) × (up < down) × (down ≤ exact_down))

-- n * 10 ^ up / 10 ^ down as a whole number below the limit, or why it is none
abbrev pub IsShifted : ℕ → ℕ → ℕ → ℕ → Result ℕ NumberFault → Type 0
IsShifted n up down limit (Ok v) = (n * 10 ^ up ≡ v * 10 ^ down) × (v < limit)
IsShifted n up down limit (Err (faults.NotANumber at)) = ⊥
IsShifted n up down limit (Err faults.Finer) = (v : ℕ) → n * 10 ^ up ≡ v * 10 ^ down → ⊥
IsShifted n up down limit (Err faults.TooLarge) = (v : ℕ) × (n * 10 ^ up ≡ v * 10 ^ down) × (limit ≤ v)

-- ---- what is written of a fraction

-- the digits in this many places; none in no places
abbrev pub shown : ℕ → ℕ → List ℕ
shown zero n = []
shown (suc places) n = padded (suc places) n
