-- The piece at the front of a text, as it is found. No public clause cites this module.
use Rattle.std.specs.Prelude.{ℕ, Bool, cond, List, [], ◌∷◌, length, Option, Some, None}
use Rattle.snd_lexer.specs.declared.token.Dialect.{Dialect}
use Rattle.snd_lexer.specs.declared.token.TokenKind.{TokenKind}
use Rattle.snd_lexer.specs.declared.class.Class.{Class}
use Rattle.snd_lexer.specs.declared.class.Class.TheVariants.{Blank, Hash, Open, Close, Equals, Word, Forbidden}
use Rattle.snd_lexer.specs.Cutting.{Piece, blank, comment, word, open_bracket, close_bracket, equals_sign, piece_text, kind_of, class_of, is_word, is_in_comment}

-- the longest run of such bytes at the front
abbrev pub front : (ℕ → Bool) → List ℕ → List ℕ
front p [] = []
front p (b ∷ bytes) = cond (p b) (b ∷ front p bytes) []

-- what stands behind that run
abbrev pub behind : (ℕ → Bool) → List ℕ → List ℕ
behind p [] = []
behind p (b ∷ bytes) = cond (p b) (behind p bytes) (b ∷ bytes)

-- the piece that begins with a byte of this class, and what stands behind it
abbrev pub piece_by : Dialect → Class → ℕ → List ℕ → Option (Piece × List ℕ)
piece_by d Blank b bytes = Some (blank b, bytes)
piece_by d Hash b bytes = Some (comment (front is_in_comment bytes), behind is_in_comment bytes)
piece_by d Open b bytes = Some (open_bracket, bytes)
piece_by d Close b bytes = Some (close_bracket, bytes)
piece_by d Equals b bytes = Some (equals_sign, bytes)
piece_by d Word b bytes = Some (word (b ∷ front (is_word d) bytes), behind (is_word d) bytes)
piece_by d Forbidden b bytes = None

-- the piece at the front, and what stands behind it
unfoldable pub first_piece : Dialect → List ℕ → Option (Piece × List ℕ)
first_piece d [] = None
first_piece d (b ∷ bytes) = piece_by d (class_of d b) b bytes

-- the length of a piece, and the kind of its token
abbrev pub length_and_kind : Piece × List ℕ → ℕ × Option TokenKind
length_and_kind x = (length (piece_text x.0), kind_of x.0)
