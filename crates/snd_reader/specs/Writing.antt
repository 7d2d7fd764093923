-- Tokens as a text writes them.
use Rattle.std.specs.Prelude.{◌≡◌, ℕ, ◌<◌, true, List, [], ◌∷◌, ◌++◌, length, All, codes, decimal}
use Rattle.scaled_numbers.specs.Canonical.{grains_text}
use Rattle.snd_lexer.specs.declared.token.Dialect.{Dialect}
use Rattle.snd_lexer.specs.Cutting.{is_word}
use Rattle.snd_reader.specs.Readers.{Lexeme, word, open_bracket, close_bracket, equals_sign, the_end}

-- one byte or more, and each may stand in a word of such texts
pub record IsWordOf (d : Dialect) (bytes : List ℕ) : Type 0 where
  pub some : 0 < length bytes
  pub word_bytes : All (λ byte. is_word d byte ≡ true) bytes

-- the bytes of a token
abbrev pub lexeme_text : Lexeme → List ℕ
lexeme_text (word bytes) = bytes
lexeme_text open_bracket = 40 ∷ []
lexeme_text close_bracket = 41 ∷ []
lexeme_text equals_sign = 61 ∷ []
lexeme_text the_end = []

-- tokens, each with a space in front
abbrev pub spaced : List Lexeme → List ℕ
spaced [] = []
spaced (t ∷ ts) = 32 ∷ (lexeme_text t ++ spaced ts)

-- the line of a record: its tokens, another space in front of the first, and an LF
abbrev pub line_of : List Lexeme → List ℕ
line_of ts = 32 ∷ (spaced ts ++ 10 ∷ [])

-- a line that names the section, the lines of its records, and a line that closes it
abbrev pub section_text : List ℕ → List ℕ → List ℕ
section_text name lines = name ++ (codes " (\n" ++ (lines ++ codes ")\n"))

-- a number of millionths, as its one canonical decimal
abbrev pub grains : ℕ → Lexeme
grains n = word (grains_text n 6)

-- a whole number in decimal digits
abbrev pub whole : ℕ → Lexeme
whole n = word (decimal n)
