-- Which tokens a text has behind its header line, and what may be wrong with a text.
use Rattle.std.specs.Prelude.{◌≡◌, ℕ, ◌+◌, ◌-◌, List, ◌∷◌, length, ◌⊎◌, Result, Ok, Err}
use Rattle.snd_lexer.specs.declared.token.Dialect.{Dialect}
use Rattle.snd_lexer.specs.declared.token.Token.{Token}
use Rattle.snd_lexer.specs.Cutting.{Lexes, StopsAt}
use Rattle.snd_reader.specs.declared.fault.Complaint.{Complaint}
use Rattle.snd_reader.specs.declared.fault.TextFault.{TextFault}
use Rattle.snd_reader.specs.declared.fault.TextFault.TheVariants.{Header, Unknown, Control, OutOfMemory}
use Rattle.snd_reader.specs.Readers.{Placed, Reader}
use Rattle.snd_reader.specs.Forms.{IsFirstBad}
use Rattle.snd_reader.specs.Faults.{fault_at}
use Rattle.snd_reader.specs.Tokens.{placed}
use Rattle.snd_reader.specs.Header.{HasHeader}

-- behind its first line, which is this one, the text is cut into these tokens, and then it ends; places are those in the whole text
pub record HasTokens (d : Dialect) (line text : List ℕ) (ts : List Placed) : Type 0 where
  pub rest : List ℕ
  pub header : HasHeader line text rest
  pub tokens : List Token
  pub cut : Lexes d rest tokens
  pub these : ts ≡ placed (length text - length rest) rest tokens

-- ---- faults

-- the first line is not this one
abbrev pub HasNoHeader : List ℕ → List ℕ → Type 0
HasNoHeader line text = (rest : List ℕ) → HasHeader line text rest → ⊥

-- at this place behind the first line stands the first byte that may stand in comments only and stands in none
pub record HasControl (d : Dialect) (line text : List ℕ) (at : ℕ) : Type 0 where
  pub rest : List ℕ
  pub header : HasHeader line text rest
  pub place : ℕ
  pub stops : StopsAt d rest place
  pub is : at ≡ length text - length rest + place

-- this is wrong with the first bad token: those before it begin something of this form, and with it they do not
pub record HasBad {A B : Type 0} (d : Dialect) (line : List ℕ) (F : List Placed → A → Type 0) (read : Reader B) (text : List ℕ) (f : TextFault) : Type 0 where
  pub ts : List Placed
  pub tokens : HasTokens d line text ts
  pub bad : Placed
  pub after : List Placed
  pub first : IsFirstBad F ts bad
  pub complaint : Complaint
  pub says : read ts ≡ Err (complaint, bad ∷ after)
  pub is : f ≡ fault_at bad.at complaint

-- What is wrong with a text of this form; at which place the first unknown name stands, is said of the text apart.
abbrev pub IsFaultOf : {A B : Type 0} → Dialect → List ℕ → (List Placed → A → Type 0) → Reader B → (List ℕ → ℕ → Type 0) → List ℕ → TextFault → Type 0
IsFaultOf d line F read HasUnknown text Header = HasNoHeader line text
IsFaultOf d line F read HasUnknown text (Control at) = HasControl d line text at
IsFaultOf d line F read HasUnknown text (Unknown at) = HasUnknown text at
IsFaultOf d line F read HasUnknown text OutOfMemory = Unit {0}
IsFaultOf d line F read HasUnknown text f = HasBad d line F read text f

-- the text has no tokens: its first line is not this one, or it cannot be cut, or memory runs out
abbrev pub IsCutFault : Dialect → List ℕ → List ℕ → TextFault → Type 0
IsCutFault d line text Header = HasNoHeader line text
IsCutFault d line text (Control at) = HasControl d line text at
IsCutFault d line text OutOfMemory = Unit {0}
IsCutFault d line text f = ⊥

-- ---- answers

-- the answer is this file, or want of memory
abbrev pub OnlyFile : {A : Type 0} → Result A TextFault → A → Type 0
OnlyFile (Ok found) file = found ≡ file
OnlyFile (Err fault) file = fault ≡ OutOfMemory

-- the faults are the same, or one is want of memory, which may be told of any text
abbrev pub AreOneFault : TextFault → TextFault → Type 0
AreOneFault f g = (f ≡ OutOfMemory) ⊎ ((g ≡ OutOfMemory) ⊎ (f ≡ g))

-- the answer is this fault, or want of memory
abbrev pub OnlyFault : {A : Type 0} → Result A TextFault → TextFault → Type 0
OnlyFault (Ok found) f = f ≡ OutOfMemory
OnlyFault (Err fault) f = AreOneFault fault f
