-- Each text has its tokens, or a fault that tells why it has none.
use Rattle.std.proofs.Common.{◌≡◌, ℕ, suc, zero, ◌+◌, ◌-◌, ◌<◌, ◌≤◌, ◌⊎◌, inl, inr, true, false, Bool, List, [], ◌∷◌, ◌++◌, length, drop, Option, Some, None, refl, sym, ap, ◌∙◌, arith}
use Rattle.std.specs.Prelude.{◌≢◌, Result, Ok, Err}
use Rattle.std.proofs.lemmas.Bool.{cases_Bool, cases_lt, cases_order}
use Rattle.snd_lexer.specs.declared.token.Dialect.{Dialect}
use Rattle.snd_lexer.specs.declared.token.Token.{Token}
use Rattle.snd_lexer.specs.Cutting.{Piece, piece_text, Lexes, StopsAt}
use Rattle.snd_lexer.specs.Pieces.{first_piece}
use Rattle.snd_lexer.proofs.Cuts.{CutTo, begin, step, lexed, stopped, first_found}
use Rattle.snd_reader.specs.declared.fault.Complaint.{Complaint}
use Rattle.snd_reader.specs.declared.fault.Complaint.TheVariants as complaints
use Rattle.snd_reader.specs.declared.fault.TextFault.{TextFault}
use Rattle.snd_reader.specs.declared.fault.TextFault.TheVariants.{Header, Control, OutOfMemory}
use Rattle.snd_reader.specs.Faults.{Blames, Fails, fault_at}
use Rattle.snd_reader.specs.Header.{ends_line, HasHeader}
use Rattle.snd_reader.specs.Readers.{Placed, Stopped, first_of}
use Rattle.snd_reader.specs.Texts.{HasTokens, HasNoHeader, IsCutFault}
use Rattle.snd_reader.specs.Tokens.{placed}
use Rattle.snd_reader.proofs.Headers.{past, has_header, not_ended, no_front}

-- the text has this fault, which is not want of memory
abbrev pub HasAFault : (TextFault → Type 0) → Type 0
HasAFault IsFault = (fault : TextFault) × (fault ≢ OutOfMemory) × IsFault fault

-- ---- a text is cut, or stops

-- the text is cut to its end, or up to a byte that may stand in comments only
abbrev IsCut : Dialect → List ℕ → Type 0
IsCut d text = ((tokens : List Token) × Lexes d text tokens) ⊎ ((at : ℕ) × StopsAt d text at)

goes-on : (d : Dialect) (text : List ℕ) (more at : ℕ) (tokens : List Token) (found : Option (Piece × List ℕ)) → CutTo d text at tokens → length text ≤ at + suc more → at < length text → first_piece d (drop at text) ≡ found
    → ((next : ℕ) (later : List Token) → CutTo d text next later → length text ≤ next + more → IsCut d text) → IsCut d text
goes-on d text more at tokens None cut enough before is later = inr (at, stopped d text at tokens cut before is)
goes-on d text more at tokens (Some found) cut enough before is later =
    later _ _ (step d text at tokens found.0 found.1 cut is) (omega (arith, enough, (first_found d (drop at text) found.0 found.1 is).some))

-- behind what is cut, so many bytes at most are left
cut-on : (d : Dialect) (text : List ℕ) (more at : ℕ) (tokens : List Token) → CutTo d text at tokens → length text ≤ at + more → IsCut d text
cut-on d text zero at tokens cut enough = inl (tokens, lexed d text at tokens cut (omega (arith, enough)))
cut-on d text (suc more) at tokens cut enough =
    elim (cases_lt at (length text)) [
      | inl before ↦ goes-on d text more at tokens (first_piece d (drop at text)) cut enough before refl (λ next later c e. cut-on d text more next later c e)
      | inr past ↦ inl (tokens, lexed d text at tokens cut past)
    ]

is-cut : (d : Dialect) (text : List ℕ) → IsCut d text
is-cut d text = cut-on d text (length text) 0 [] (begin d text) (omega arith)

-- ---- a text has its header, or lacks it

abbrev Begins : List ℕ → List ℕ → Type 0
Begins line text = ((rest : List ℕ) × (text ≡ line ++ rest)) ⊎ ((rest : List ℕ) → text ≡ line ++ rest → ⊥)

begins-more : (b c : ℕ) (line text : List ℕ) → (b ≡ c) ⊎ ((b < c) ⊎ (c < b)) → Begins line text → Begins (b ∷ line) (c ∷ text)
begins-more b c line text (inl same) (inl found) = inl (found.0, ap (λ (x : ℕ). x ∷ text) (sym same) ∙ ap (λ (t : List ℕ). b ∷ t) found.1)
begins-more b c line text (inl same) (inr lost) = inr (λ rest is. lost rest (let behind : text ≡ line ++ rest = cc in behind))
begins-more b c line text (inr (inl less)) found = inr (λ rest is. absurd (let first : c ≡ b = cc in omega (arith, first, less)))
begins-more b c line text (inr (inr less)) found = inr (λ rest is. absurd (let first : c ≡ b = cc in omega (arith, first, less)))

begins : (line text : List ℕ) → Begins line text
begins [] text = inl (text, refl)
begins (b ∷ line) [] = inr (λ rest is. absurd cc)
begins (b ∷ line) (c ∷ text) = begins-more b c line text (cases_order b c) (begins line text)

abbrev IsHeaded : List ℕ → List ℕ → Type 0
IsHeaded line text = ((rest : List ℕ) × HasHeader line text rest) ⊎ HasNoHeader line text

headed-by : (line text : List ℕ) → Begins line text → IsHeaded line text
headed-by line text (inl found) =
    elim (cases_Bool (ends_line (past found.0))) [
      | inl ends ↦ inl (past found.0, has_header line text found.0 found.1 ends)
      | inr goes ↦ inr (not_ended line text found.0 found.1 goes)
    ]
headed-by line text (inr lost) = inr (no_front line text lost)

-- ---- tokens

module _ (d : Dialect) (line text : List ℕ) where
  -- the text has tokens, or this is why it has none
  abbrev pub HasTokensOrFault : Type 0
  HasTokensOrFault = ((tokens : List Placed) × HasTokens d line text tokens) ⊎ HasAFault (IsCutFault d line text)

  of-rest : (rest : List ℕ) → HasHeader line text rest → IsCut d rest → HasTokensOrFault
  of-rest rest header (inl found) = inl (placed (length text - length rest) rest found.0, record { rest = rest; header = header; tokens = found.0; cut = found.1; these = refl })
  of-rest rest header (inr stop) = inr (Control (length text - length rest + stop.0), (λ same. absurd cc), record { rest = rest; header = header; place = stop.0; stops = stop.1; is = refl })

  of-header : IsHeaded line text → HasTokensOrFault
  of-header (inl found) = of-rest found.0 found.1 (is-cut d found.0)
  of-header (inr lost) = inr (Header, (λ same. absurd cc), lost)

  -- each text has its tokens, or a fault that tells why it has none
  pub tokens_or_fault : HasTokensOrFault
  tokens_or_fault = of-header (headed-by line text (begins line text))

-- ---- what stops the reading of tokens

stop-told : (at : ℕ) (c : Complaint) → fault_at at c ≢ OutOfMemory
stop-told at (complaints.Unexpected w) same = absurd cc
stop-told at (complaints.Number f) same = absurd cc
stop-told at complaints.Twice same = absurd cc
stop-told at complaints.LongId same = absurd cc
stop-told at complaints.Ended same = absurd cc

stop-fails : {Y : Type 0} (at : ℕ) (c : Complaint) (read : Result Y Stopped) → Blames (fault_at at c) read → Fails (fault_at at c) read
stop-fails at (complaints.Unexpected w) read blames = blames
stop-fails at (complaints.Number f) read blames = blames
stop-fails at complaints.Twice read blames = blames
stop-fails at complaints.LongId read blames = blames
stop-fails at complaints.Ended read blames = blames

-- reading that stops has a fault
pub stopped_so : {Y : Type 0} (c : Complaint) (rest : List Placed) (read : Result Y Stopped) → read ≡ Err (c, rest) → HasAFault (λ fault. Fails fault read)
stopped_so c rest read is =
    (fault_at (first_of rest).at c, stop-told (first_of rest).at c, stop-fails (first_of rest).at c read (record { complaint = c; rest = rest; stops = is; is = refl }))
