-- Texts as lists of lines.
use Rattle.std.specs.Prelude.{ℕ, if◌then◌else◌, ◌==◌, List, [], ◌∷◌, ◌++◌, flat_map}

-- a line of a text: its bytes without the line end; behind the last line end bytes may be left over
pub data Line : Type 0 where
  whole : List ℕ → Line
  unfinished : List ℕ → Line

-- the bytes of a line, its end included
abbrev pub line_text : Line → List ℕ
line_text (whole body) = body ++ 10 ∷ []
line_text (unfinished bytes) = bytes

-- the bytes of lines, one after the other
abbrev pub text_of : List Line → List ℕ
text_of lines = flat_map line_text lines

-- the lines with one byte more in front of the first
abbrev pub onto : ℕ → List Line → List Line
onto byte [] = unfinished (byte ∷ []) ∷ []
onto byte (whole body ∷ lines) = whole (byte ∷ body) ∷ lines
onto byte (unfinished bytes ∷ lines) = unfinished (byte ∷ bytes) ∷ lines

-- the lines of a text: each line end, LF, ends one
unfoldable pub lines_of : List ℕ → List Line
lines_of [] = []
lines_of (byte ∷ bytes) = if byte == 10 then whole [] ∷ lines_of bytes else onto byte (lines_of bytes)
