-- Readers of token lists, which stop at the first bad token.
use Rattle.std.specs.Prelude.{ℕ, zero, suc, List, [], ◌∷◌, length, Option, Some, None, Result, Ok, Err}
use Rattle.snd_reader.specs.declared.fault.Complaint.{Complaint}
use Rattle.snd_reader.specs.declared.fault.Complaint.TheVariants.{Ended}

-- a token without its place; behind the tokens of a text stands its end
pub data Lexeme : Type 0 where
  word : List ℕ → Lexeme
  open_bracket : Lexeme
  close_bracket : Lexeme
  equals_sign : Lexeme
  the_end : Lexeme

-- a token with the place of its first byte in the whole text
pub record Placed : Type 0 where
  pub at : ℕ
  pub is : Lexeme

-- a complaint, and the tokens from the bad one on
abbrev pub Stopped : Type 0
Stopped = Complaint × List Placed

-- it gives a value and the tokens behind it, or stops at the first bad token
abbrev pub Reader : Type 0 → Type 0
Reader A = List Placed → Result (A × List Placed) Stopped

infixl 10 ◌>>=◌
-- goes on where nothing is wrong yet
abbrev pub ◌>>=◌ : {A B : Type 0} → Result A Stopped → (A → Result B Stopped) → Result B Stopped
(Ok x) >>= f = f x
(Err e) >>= f = Err e

-- reads nothing
abbrev pub done : {A : Type 0} → A → Reader A
done x ts = Ok (x, ts)

-- reads one thing, and then another that may depend on it
abbrev pub bind : {A B : Type 0} → Reader A → (A → Reader B) → Reader B
bind r s ts = r ts >>= λ p. s p.0 p.1

-- ---- one token

-- the first token, or an end where none is left
abbrev pub first_of : List Placed → Placed
first_of [] = record { at = 0; is = the_end }
first_of (t ∷ ts) = t

-- the tokens behind the first
abbrev pub rest_of : List Placed → List Placed
rest_of [] = []
rest_of (t ∷ ts) = ts

-- goes past a token that is found good
abbrev pub judged : {A : Type 0} → Placed → List Placed → Result A Complaint → Result (A × List Placed) Stopped
judged t ts (Ok x) = Ok (x, ts)
judged t ts (Err c) = Err (c, t ∷ ts)

-- goes past the first token where it is found good
abbrev pub judge : {A : Type 0} → Result A Complaint → List Placed → Result (A × List Placed) Stopped
judge v [] = Err (Ended, [])
judge v (t ∷ ts) = judged t ts v

-- reads one token, of which the test says what it stands for or what is wrong with it
abbrev pub token : {A : Type 0} → (Placed → Result A Complaint) → Reader A
token test ts = judge (test (first_of ts)) ts

-- ---- many in a row

-- The head says of a token that it ends the list, or that an item begins with it.
abbrev pub turn : {S H : Type 0} → (S → H → Reader S) → (S → Reader S) → S → Placed → List Placed → Result (Option H) Complaint → Result (S × List Placed) Stopped
turn body later s t ts (Ok None) = Ok (s, ts)
turn body later s t ts (Ok (Some h)) = body s h ts >>= λ p. later p.0 p.1
turn body later s t ts (Err c) = Err (c, t ∷ ts)

-- at most so many items, and the token that ends the list
unfoldable pub turns : {S H : Type 0} → (S → Placed → Result (Option H) Complaint) → (S → H → Reader S) → ℕ → S → Reader S
turns head body zero s ts = Err (Ended, [])
turns head body (suc n) s [] = Err (Ended, [])
turns head body (suc n) s (t ∷ ts) = turn body (turns head body n) s t ts (head s t)

-- as many items as there may be
abbrev pub items : {S H : Type 0} → (S → Placed → Result (Option H) Complaint) → (S → H → Reader S) → S → Reader S
items head body s ts = turns head body (suc (length ts)) s ts
