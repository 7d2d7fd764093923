-- Texts by name, as a list of pairs of a name and its text.
use Rattle.std.specs.Prelude.{ℕ, Bool, List, [], Option, None, option_map, find, slice_index_or}
use Rattle.std.specs.List.{position_or_len}
use Rattle.std.specs.Str.{bytes_eq}

-- what a shelf tells of a text that it does not know
abbrev pub no_text : Option (List ℕ)
no_text = None

-- the text has this name
abbrev pub has_name : List ℕ → List ℕ × List ℕ → Bool
has_name name text = bytes_eq text.0 name

-- the first text of this name
abbrev pub find_text : List (List ℕ × List ℕ) → List ℕ → Option (List ℕ)
find_text texts name = option_map (λ text. text.1) (find (has_name name) texts)

-- the place of the first text of this name, or the count of texts
abbrev pub place_of : List (List ℕ × List ℕ) → List ℕ → ℕ
place_of texts name = position_or_len (has_name name) texts

-- the text at this place, empty past the last
abbrev pub text_at : List (List ℕ × List ℕ) → ℕ → List ℕ
text_at texts place = (slice_index_or texts place ([], [])).1
