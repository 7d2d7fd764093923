-- Tokens with balanced brackets, which a text may have for others to read.
use Rattle.std.specs.Prelude.{◌≡◌, ℕ, zero, suc, List, [], ◌∷◌, Result, Ok, Err}
use Rattle.snd_reader.specs.declared.brackets.Depth.{Depth}
use Rattle.snd_reader.specs.declared.brackets.Depth.TheVariants.{Closed, Deep, Over}
use Rattle.snd_reader.specs.declared.fault.Complaint.TheVariants.{Ended}
use Rattle.snd_reader.specs.Readers.{Lexeme, word, open_bracket, close_bracket, equals_sign, the_end, Placed, Stopped, Reader}

-- what the first token says of tokens with balanced brackets, where so many are open
abbrev pub IsBalancedBy : (ℕ → Type 0) → ℕ → List Placed → Lexeme → Type 0
IsBalancedBy Later depth ts (word bytes) = Later depth
IsBalancedBy Later depth ts open_bracket = Later (suc depth)
IsBalancedBy Later zero ts close_bracket = ts ≡ []
IsBalancedBy Later (suc depth) ts close_bracket = Later depth
IsBalancedBy Later depth ts equals_sign = Later depth
IsBalancedBy Later depth ts the_end = ⊥

-- tokens with balanced brackets, and the Close behind them, where so many brackets are open
abbrev pub IsBalanced : ℕ → List Placed → Type 0
IsBalanced depth [] = ⊥
IsBalanced depth (t ∷ ts) = IsBalancedBy (λ d. IsBalanced d ts) depth ts t.is

-- tokens that are passed over
abbrev pub IsSkipped : List Placed → Unit {0} → Type 0
IsSkipped ts x = IsBalanced 0 ts

-- what a token says of brackets: all are closed, so many are open behind it, or the text ends
abbrev pub depth_at : ℕ → Lexeme → Depth
depth_at depth (word bytes) = Deep depth
depth_at depth open_bracket = Deep (suc depth)
depth_at zero close_bracket = Closed
depth_at (suc depth) close_bracket = Deep depth
depth_at depth equals_sign = Deep depth
depth_at depth the_end = Over

-- goes on as the first token says
abbrev pub skip_by : (ℕ → Result (Unit {0} × List Placed) Stopped) → Placed → List Placed → Depth → Result (Unit {0} × List Placed) Stopped
skip_by later t ts Closed = Ok (tt, ts)
skip_by later t ts (Deep d) = later d
skip_by later t ts Over = Err (Ended, t ∷ ts)

-- reads tokens with balanced brackets, and the Close behind them, where so many brackets are open
unfoldable pub skip : ℕ → Reader (Unit {0})
skip depth [] = Err (Ended, [])
skip depth (t ∷ ts) = skip_by (λ d. skip d ts) t ts (depth_at depth t.is)
