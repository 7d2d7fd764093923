-- What a clause sees of a shelf that never fails.
use Rattle.std.specs.Prelude.{ℕ, ◌≡◌, List, [], unwrap_or}
use Rattle.plan_io.specs.declared.sure_shelf.SureShelf.{SureShelf}
use Rattle.plan_io.specs.Texts.{find_text}
use Rattle.plan_io.specs.Held.{left_in}

-- the pairs of a name and its text, in the order in which they were given
abbrev pub texts_of : SureShelf → List (List ℕ × List ℕ)
texts_of shelf = shelf.held.texts

-- the text of this name, empty where there is none
abbrev pub text_of : SureShelf → List ℕ → List ℕ
text_of shelf name = unwrap_or (find_text (texts_of shelf) name) []

-- what is left of the text begun, empty where none is
abbrev pub text_left : SureShelf → List ℕ
text_left shelf = left_in shelf.held

-- how often a text was begun
abbrev pub begin_count : SureShelf → ℕ
begin_count shelf = shelf.held.begins

-- how many bytes were read since the last begin
abbrev pub taken_count : SureShelf → ℕ
taken_count shelf = shelf.held.taken

-- nothing was called yet
pub record IsUnused (shelf : SureShelf) : Type 0 where
  pub left : text_left shelf ≡ []
  pub begins : begin_count shelf ≡ 0
  pub taken : taken_count shelf ≡ 0
