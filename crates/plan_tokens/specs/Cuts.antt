-- Bytes that are cut, and what is seen of what is found.
use Rattle.std.specs.Str.Parse.{AllDigits, digits_value}
use Rattle.std.specs.Prelude.{◌≡◌, ◌≤◌, ◌+◌, ◌-◌, ◌*◌, ◌^◌, ℕ, List, [], ◌∷◌, ◌++◌, length, Option, Vec}
use Rattle.std.specs.Borrow.{Bor}
use Rattle.std.specs.Option.{option_map}
use Rattle.plan_tokens.specs.declared.stop.Stop.{Stop}
use Rattle.plan_tokens.specs.declared.stop.Stop.TheVariants.{At}
use Rattle.plan_tokens.specs.Lines.{Line, whole, unfinished, lines_of}

-- what is found behind a reference
abbrev pub found_now : {A : Type 0} → Option (Bor A) → Option A
found_now found = option_map (λ x. x.now) found

-- the items of a list that was found
abbrev pub items_of : {A Z : Type 0} → Option (Vec A Z) → Option (List A)
items_of found = option_map (λ v. v.items) found

-- ---- cutting a text

-- the byte does not stand among these
abbrev pub Lacks : ℕ → List ℕ → Type 0
Lacks at [] = Unit {0}
Lacks at (byte ∷ bytes) = (byte ≡ at → ⊥) × Lacks at bytes

-- the bytes are none, or begin with this one
abbrev pub StartsWith : ℕ → List ℕ → Type 0
StartsWith at [] = Unit {0}
StartsWith at (byte ∷ bytes) = byte ≡ at

-- the bytes, cut where this byte stands first
pub record IsCutAt (at : ℕ) (bytes front rest : List ℕ) : Type 0 where
  pub parts : bytes ≡ front ++ rest
  pub none_before : Lacks at front
  pub begins : StartsWith at rest

-- no whole line stands first
abbrev pub HasNoLine : List Line → Type 0
HasNoLine [] = Unit {0}
HasNoLine (whole body ∷ lines) = ⊥
HasNoLine (unfinished bytes ∷ lines) = Unit {0}

-- no whole line stands first, and reading stops at the first byte
pub record IsNoLine (text : List ℕ) (e : Stop) : Type 0 where
  pub left : ℕ
  pub is : e ≡ At left
  pub count : left ≡ length text
  pub none : HasNoLine (lines_of text)

-- digits before and behind a point that come to this value in units of 10^-12
pub record IsScaledParts (value : ℕ) (whole_part fraction : List ℕ) : Type 0 where
  pub short : length fraction ≤ 12
  pub whole_digits : AllDigits 10 whole_part
  pub fraction_digits : AllDigits 10 fraction
  pub sum : digits_value 10 whole_part * 10 ^ 12 + digits_value 10 fraction * 10 ^ (12 - length fraction) ≡ value
