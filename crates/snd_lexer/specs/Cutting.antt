-- What it means that a text is cut into blanks, comments and tokens. lex of src/lexer.rt has it as its contract.
use Rattle.std.specs.Prelude.{◌≡◌, ℕ, ◌+◌, ◌<◌, Bool, true, false, ◌||◌, not, nat_lt, ◌==◌, if◌then◌else◌, List, [], ◌∷◌, ◌++◌, length, slice_range, ◌≤◌, Option, Some, None, Result, Ok, Err, Vec}
use Rattle.std.specs.declared.alloc.Global.{Global}
use Rattle.std.specs.List.{AllByRecursion}
use Rattle.snd_lexer.specs.declared.token.Dialect.{Dialect}
use Rattle.snd_lexer.specs.declared.token.Dialect.TheVariants.{Network, Model}
use Rattle.snd_lexer.specs.declared.token.TokenKind.{TokenKind}
use Rattle.snd_lexer.specs.declared.token.TokenKind.TheVariants as kinds
use Rattle.snd_lexer.specs.declared.token.Token.{Token}
use Rattle.snd_lexer.specs.declared.class.Class.{Class}
use Rattle.snd_lexer.specs.declared.class.Class.TheVariants.{Blank, Hash, Open, Close, Equals, Word, Forbidden}
use Rattle.snd_lexer.specs.declared.fault.LexFault.{LexFault}
use Rattle.snd_lexer.specs.declared.fault.LexFault.TheVariants.{Control, OutOfMemory}

-- ---- bytes

-- a space, tab, CR or LF
abbrev pub is_blank : ℕ → Bool
is_blank byte = byte == 32 || byte == 9 || byte == 13 || byte == 10

-- what `=` is
abbrev pub class_of_equals : Dialect → Class
class_of_equals Network = Word
class_of_equals Model = Equals

-- what a byte is outside comments
abbrev pub class_of : Dialect → ℕ → Class
class_of d byte =
    if is_blank byte then Blank else
    if byte == 35 then Hash else
    if byte == 40 then Open else
    if byte == 41 then Close else
    if byte == 61 then class_of_equals d else
    if nat_lt byte 32 || byte == 127 then Forbidden else Word

-- it is the class of word bytes
abbrev pub is_word_class : Class → Bool
is_word_class Word = true
is_word_class c = false

-- it is a word byte
abbrev pub is_word : Dialect → ℕ → Bool
is_word d byte = is_word_class (class_of d byte)

-- it is any byte but LF
abbrev pub is_in_comment : ℕ → Bool
is_in_comment byte = not (byte == 10)

-- ---- pieces

-- A piece of a text; a comment is the bytes behind its `#`, without the LF that ends it.
pub data Piece : Type 0 where
  blank : ℕ → Piece
  comment : List ℕ → Piece
  word : List ℕ → Piece
  open_bracket : Piece
  close_bracket : Piece
  equals_sign : Piece

-- the bytes of a piece
abbrev pub piece_text : Piece → List ℕ
piece_text (blank byte) = byte ∷ []
piece_text (comment bytes) = 35 ∷ bytes
piece_text (word bytes) = bytes
piece_text open_bracket = 40 ∷ []
piece_text close_bracket = 41 ∷ []
piece_text equals_sign = 61 ∷ []

-- the bytes of pieces that stand one behind the other
abbrev pub text_of : List Piece → List ℕ
text_of [] = []
text_of (p ∷ ps) = piece_text p ++ text_of ps

-- a run of such bytes does not go on here
abbrev pub EndsRun : (ℕ → Bool) → List ℕ → Type 0
EndsRun p [] = Unit {0}
EndsRun p (byte ∷ after) = p byte ≡ false

-- the bytes are a longest run of such bytes, with these bytes behind it
abbrev pub IsRun : (ℕ → Bool) → List ℕ → List ℕ → Type 0
IsRun p bytes after = AllByRecursion (λ byte. p byte ≡ true) bytes × EndsRun p after

-- it is a piece of a text, with these bytes behind it
abbrev pub IsPiece : Dialect → Piece → List ℕ → Type 0
IsPiece d (blank byte) after = is_blank byte ≡ true
IsPiece d (comment bytes) after = IsRun is_in_comment bytes after
IsPiece d (word bytes) after = (0 < length bytes) × IsRun (is_word d) bytes after
IsPiece d open_bracket after = Unit {0}
IsPiece d close_bracket after = Unit {0}
IsPiece d equals_sign after = d ≡ Model

-- each is a piece of a text, with these bytes behind the last
abbrev pub AreCut : Dialect → List Piece → List ℕ → Type 0
AreCut d [] after = Unit {0}
AreCut d (p ∷ ps) after = IsPiece d p (text_of ps ++ after) × AreCut d ps after

-- ---- tokens

-- the kind of the token that a piece is, if it is one
abbrev pub kind_of : Piece → Option TokenKind
kind_of (blank byte) = None
kind_of (comment bytes) = None
kind_of (word bytes) = Some kinds.Word
kind_of open_bracket = Some kinds.Open
kind_of close_bracket = Some kinds.Close
kind_of equals_sign = Some kinds.Equals

-- the token of this kind between two places, or none
abbrev pub token_at : ℕ → ℕ → Option TokenKind → List Token
token_at start end None = []
token_at start end (Some kind) = record { start = start; end = end; kind = kind } ∷ []

-- the tokens among pieces of which the first stands at a place
abbrev pub tokens_from : ℕ → List Piece → List Token
tokens_from at [] = []
tokens_from at (p ∷ ps) = token_at at (at + length (piece_text p)) (kind_of p) ++ tokens_from (at + length (piece_text p)) ps

-- the text is cut into blanks, comments and tokens, and these are the tokens
pub record Lexes (d : Dialect) (text : List ℕ) (tokens : List Token) : Type 0 where
  pub pieces : List Piece
  pub cut : AreCut d pieces []
  pub whole : text ≡ text_of pieces
  pub these : tokens ≡ tokens_from 0 pieces

-- up to this place the text is cut, and there stands a byte that may stand in comments only
pub record StopsAt (d : Dialect) (text : List ℕ) (at : ℕ) : Type 0 where
  pub pieces : List Piece
  pub byte : ℕ
  pub after : List ℕ
  pub cut : AreCut d pieces (byte ∷ after)
  pub forbidden : class_of d byte ≡ Forbidden
  pub whole : text ≡ text_of pieces ++ byte ∷ after
  pub place : at ≡ length (text_of pieces)

-- the fault is such a byte, or want of memory
abbrev pub IsStop : Dialect → List ℕ → LexFault → Type 0
IsStop d text (Control at) = StopsAt d text at
IsStop d text OutOfMemory = Unit {0}

-- the fault is want of memory
abbrev pub IsMemory : LexFault → Type 0
IsMemory OutOfMemory = Unit {0}
IsMemory (Control at) = ⊥

-- the fault is at this place, or want of memory
abbrev pub IsAt : ℕ → LexFault → Type 0
IsAt at OutOfMemory = Unit {0}
IsAt at (Control place) = place ≡ at

-- the answer is these tokens, or want of memory
abbrev pub OnlyTokens : Result (Vec Token Global) LexFault → List Token → Type 0
OnlyTokens (Ok found) tokens = found.items ≡ tokens
OnlyTokens (Err fault) tokens = IsMemory fault

-- the answer is a fault at this place, or want of memory
abbrev pub OnlyStop : Result (Vec Token Global) LexFault → ℕ → Type 0
OnlyStop (Ok found) at = ⊥
OnlyStop (Err fault) at = IsAt at fault

-- tokens in order, none of them empty, from a place on and within a length
abbrev pub AreSpans : ℕ → ℕ → List Token → Type 0
AreSpans from len [] = from ≤ len
AreSpans from len (t ∷ ts) = (from ≤ t.start) × (t.start < t.end) × AreSpans t.end len ts

-- ---- slices

-- the token is a slice of each text of this length
abbrev pub IsWithin : ℕ → Token → Type 0
IsWithin len t = (t.start ≤ t.end) × (t.end ≤ len)

-- the bytes of a token
abbrev pub token_bytes : List ℕ → Token → List ℕ
token_bytes text t = slice_range text t.start t.end

-- a token's kind and bytes, without its places
abbrev pub with_bytes : List ℕ → Token → TokenKind × List ℕ
with_bytes text t = (t.kind, token_bytes text t)

-- the token of this kind with these bytes, or none
abbrev pub shown_by : List ℕ → Option TokenKind → List (TokenKind × List ℕ)
shown_by bytes None = []
shown_by bytes (Some kind) = (kind, bytes) ∷ []

-- the tokens among pieces, each with its bytes
abbrev pub shown : List Piece → List (TokenKind × List ℕ)
shown [] = []
shown (p ∷ ps) = shown_by (piece_text p) (kind_of p) ++ shown ps

-- the text is cut into blanks, comments and tokens, and these are the kinds and bytes of the tokens
pub record Shows (d : Dialect) (text : List ℕ) (ls : List (TokenKind × List ℕ)) : Type 0 where
  pub pieces : List Piece
  pub cut : AreCut d pieces []
  pub whole : text ≡ text_of pieces
  pub these : ls ≡ shown pieces
