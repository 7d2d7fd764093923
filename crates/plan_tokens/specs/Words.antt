-- Words and numbers of a line.
use Rattle.std.specs.Prelude.{ℕ, ◌+◌, ◌-◌, ◌*◌, ◌^◌, if◌then◌else◌, ◌==◌, ◌&&◌, nat_lt, List, [], ◌∷◌, ◌++◌, length, take, drop, decimal, Option, Some, None, option_and_then}
use Rattle.std.specs.Option.{option_map}
use Rattle.std.specs.Str.{bytes_eq}
use Rattle.std.specs.Str.Parse.{digits_value}
use Rattle.scaled_numbers.specs.Canonical.{grains_text}

infixl 10 ◌>>=◌
-- goes on where something was read
abbrev pub ◌>>=◌ : {A B : Type 0} → Option A → (A → Option B) → Option B
o >>= f = option_and_then f o

-- the decimals of numbers, a blank in front of each
abbrev pub numerals : List ℕ → List ℕ
numerals [] = []
numerals (n ∷ ns) = 32 ∷ (decimal n ++ numerals ns)

-- a line of a word and numbers
abbrev pub row : List ℕ → List ℕ → List ℕ
row word ns = word ++ numerals ns

-- ---- reading them

-- the bytes behind this word, where the bytes begin with it
unfoldable pub behind : List ℕ → List ℕ → Option (List ℕ)
behind [] bytes = Some bytes
behind (w ∷ word) [] = None
behind (w ∷ word) (b ∷ bytes) = if b == w then behind word bytes else None

-- the bytes before this word, where the bytes end with it
unfoldable pub before : List ℕ → List ℕ → Option (List ℕ)
before word bytes = if bytes_eq (drop (length bytes - length word) bytes) word then Some (take (length bytes - length word) bytes) else None

-- one byte more in front: a blank begins a word
abbrev pub onto_words : ℕ → List ℕ × List (List ℕ) → List ℕ × List (List ℕ)
onto_words byte w = if byte == 32 then ([], w.0 ∷ w.1) else (byte ∷ w.0, w.1)

-- the bytes before the first blank, and the words behind blanks
unfoldable pub words_of : List ℕ → List ℕ × List (List ℕ)
words_of [] = ([], [])
words_of (byte ∷ bytes) = onto_words byte (words_of bytes)

-- what each item is read as, where each is read
unfoldable pub each : {A B : Type 0} → (A → Option B) → List A → Option (List B)
each f [] = Some []
each f (x ∷ xs) = f x >>= λ y. option_map (λ ys. y ∷ ys) (each f xs)

-- the number below 2^128 that is written so; of the ways to read the bytes only the guess can be right
abbrev pub read_by : (ℕ → List ℕ) → (List ℕ → ℕ) → List ℕ → Option ℕ
read_by print guess bytes = if nat_lt (guess bytes) (2 ^ 128) && bytes_eq bytes (print (guess bytes)) then Some (guess bytes) else None

-- the number whose decimal these bytes are
unfoldable pub number_of : List ℕ → Option ℕ
number_of bytes = read_by decimal (digits_value 10) bytes

-- one byte more in front: a point ends the first part
abbrev pub onto_parts : ℕ → List ℕ → List ℕ × List ℕ → List ℕ × List ℕ
onto_parts byte bytes p = if byte == 46 then ([], bytes) else (byte ∷ p.0, p.1)

-- the bytes before the first point, and those behind it
unfoldable pub parts_of : List ℕ → List ℕ × List ℕ
parts_of [] = ([], [])
parts_of (byte ∷ bytes) = onto_parts byte bytes (parts_of bytes)

-- what digits before and behind a point come to in units of 10^-12
abbrev pub scaled_parts : List ℕ × List ℕ → ℕ
scaled_parts p = digits_value 10 p.0 * 10 ^ 12 + digits_value 10 p.1 * 10 ^ (12 - length p.1)

-- the cost grains whose canonical decimal these bytes are
unfoldable pub grains_of : List ℕ → Option ℕ
grains_of bytes = read_by (λ value. grains_text value 12) (λ bytes. scaled_parts (parts_of bytes)) bytes

-- the numbers of words, where nothing stands before the first blank
abbrev pub numbers_behind : List ℕ → List (List ℕ) → Option (List ℕ)
numbers_behind [] words = each number_of words
numbers_behind (byte ∷ front) words = None

-- the numbers of the words behind blanks
abbrev pub numbers_of_words : List ℕ × List (List ℕ) → Option (List ℕ)
numbers_of_words w = numbers_behind w.0 w.1

-- the numbers below 2^128 that are written so, a blank in front of each
unfoldable pub numbers_of : List ℕ → Option (List ℕ)
numbers_of bytes = numbers_of_words (words_of bytes)

-- the numbers behind the word in a line
abbrev pub numbers_after_word : List ℕ → List ℕ → Option (List ℕ)
numbers_after_word word body = behind word body >>= numbers_of
