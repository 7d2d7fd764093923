-- What the code sees of a token.
use Rattle.std.specs.Prelude.{◌≤◌, length}
use Rattle.snd_lexer.specs.declared.limits.TheConstants.{MAX_TEXT_BYTES}
use Rattle.snd_reader.specs.declared.lexeme.Lexeme.{Lexeme as Glimpse}
use Rattle.snd_reader.specs.declared.lexeme.Lexeme.TheVariants.{Word, Open, Close, Equals, End}
use Rattle.snd_reader.specs.Readers.{Lexeme, word, open_bracket, close_bracket, equals_sign, the_end}

-- the token that the code sees
abbrev pub seen : Glimpse → Lexeme
seen (Word bytes) = word bytes.now
seen Open = open_bracket
seen Close = close_bracket
seen Equals = equals_sign
seen End = the_end

-- a word is no longer than a text may be
abbrev pub IsShort : Lexeme → Type 0
IsShort (word bytes) = length bytes ≤ MAX_TEXT_BYTES
IsShort open_bracket = Unit {0}
IsShort close_bracket = Unit {0}
IsShort equals_sign = Unit {0}
IsShort the_end = Unit {0}
