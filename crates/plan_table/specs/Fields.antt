-- The fields of a table of comma-separated values.
use Rattle.std.specs.Prelude.{ℕ, Bool, ◌||◌, List, [], ◌∷◌, ◌++◌, drop, flat_map, if◌then◌else◌, nat_eq}
use Rattle.std.specs.List.{list_any}

-- a byte that a field may have only within quotes: a comma, a quote, or a byte that ends a line
abbrev pub is_special : ℕ → Bool
is_special byte = nat_eq byte 44 || nat_eq byte 34 || nat_eq byte 10 || nat_eq byte 13

-- a byte within quotes, where a quote stands twice
abbrev pub quoted_byte : ℕ → List ℕ
quoted_byte byte = if nat_eq byte 34 then 34 ∷ 34 ∷ [] else byte ∷ []

-- these bytes within quotes
abbrev pub quoted : List ℕ → List ℕ
quoted bytes = 34 ∷ flat_map quoted_byte bytes ++ 34 ∷ []

-- the field of these bytes: within quotes where one of them asks for it
unfoldable pub field : List ℕ → List ℕ
field bytes = if list_any is_special bytes then quoted bytes else bytes

-- words of which each stands behind a blank, without the first blank
abbrev pub parted : List ℕ → List ℕ
parted words = drop 1 words
