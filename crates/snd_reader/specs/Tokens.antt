-- The tokens of a text as the grammars see them.
use Rattle.std.specs.Prelude.{ℕ, ◌+◌, ◌≤◌, List, [], ◌∷◌, ◌++◌, length, map}
use Rattle.snd_lexer.specs.declared.token.Token.{Token}
use Rattle.snd_lexer.specs.declared.token.TokenKind.{TokenKind}
use Rattle.snd_lexer.specs.declared.token.TokenKind.TheVariants as kinds
use Rattle.std.specs.List.{All}
use Rattle.snd_lexer.specs.declared.limits.TheConstants.{MAX_TEXT_BYTES}
use Rattle.snd_lexer.specs.Cutting.{token_bytes, IsWithin}
use Rattle.snd_reader.specs.Readers.{Lexeme, word, open_bracket, close_bracket, equals_sign, the_end, Placed}

-- a token of this kind with these bytes
abbrev pub lexeme_of : TokenKind → List ℕ → Lexeme
lexeme_of kinds.Word bytes = word bytes
lexeme_of kinds.Open bytes = open_bracket
lexeme_of kinds.Close bytes = close_bracket
lexeme_of kinds.Equals bytes = equals_sign

-- a token of a text that begins at a place of the whole text
abbrev pub place : ℕ → List ℕ → Token → Placed
place base text t = record { at = base + t.start; is = lexeme_of t.kind (token_bytes text t) }

-- tokens of a text that begins at a place of a whole text which is read
abbrev pub AreTokens : ℕ → List ℕ → List Token → Type 0
AreTokens base text ts = (base + length text ≤ MAX_TEXT_BYTES) × All (IsWithin (length text)) ts

-- tokens of a text that begins at a place of the whole text, and behind them the end of the text
abbrev pub placed : ℕ → List ℕ → List Token → List Placed
placed base text ts = map (place base text) ts ++ record { at = base + length text; is = the_end } ∷ []
