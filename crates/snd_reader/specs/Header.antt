-- The first line of a text.
use Rattle.std.specs.Prelude.{◌≡◌, ℕ, Bool, true, ◌||◌, ◌==◌, List, [], ◌∷◌, ◌++◌}
use Rattle.std.specs.List.{AllByRecursion}

-- it is a space, tab or CR
abbrev pub is_line_blank : ℕ → Bool
is_line_blank byte = byte == 32 || byte == 9 || byte == 13

-- nothing more of a line stands here: the text ends, or an LF stands here
abbrev pub ends_line : List ℕ → Bool
ends_line [] = true
ends_line (byte ∷ bytes) = byte == 10

-- the first line of the text is the header, but for blanks at its end, and this is the text behind that line
pub record HasHeader (header text rest : List ℕ) : Type 0 where
  pub blanks : List ℕ
  pub whole : text ≡ header ++ (blanks ++ rest)
  pub are_blank : AllByRecursion (λ byte. is_line_blank byte ≡ true) blanks
  pub line_ends : ends_line rest ≡ true
