-- What the reading of a text comes to.
use Rattle.std.proofs.Common.{◌≡◌, ℕ, ◌+◌, ◌-◌, List, [], ◌∷◌, ◌++◌, length, map, refl, sym, ap, subst, ◌∙◌, append_assoc}
use Rattle.std.specs.Prelude.{Ok, Err}
use Rattle.std.proofs.lemmas.List.{append-nil}
use Rattle.snd_lexer.specs.declared.token.Dialect.{Dialect}
use Rattle.snd_lexer.specs.declared.token.Token.{Token}
use Rattle.snd_lexer.specs.declared.token.TokenKind.{TokenKind}
use Rattle.snd_lexer.specs.declared.token.TokenKind.TheVariants as kinds
use Rattle.snd_lexer.specs.Cutting.{token_bytes}
use Rattle.snd_reader.specs.declared.fault.Complaint.{Complaint}
use Rattle.snd_reader.specs.declared.fault.Complaint.TheVariants as complaints
use Rattle.snd_reader.specs.declared.fault.TextFault.{TextFault}
use Rattle.snd_reader.specs.declared.fault.TextFault.TheVariants.{Header, Unknown, Control, OutOfMemory}
use Rattle.snd_reader.specs.Readers.{the_end, Placed, Reader, first_of}
use Rattle.snd_reader.specs.Faults.{Blames, Fails, fault_at}
use Rattle.snd_reader.specs.Tokens.{lexeme_of, place}
use Rattle.snd_reader.specs.Texts.{HasTokens, HasBad, IsFaultOf, IsCutFault}
use Rattle.snd_reader.proofs.Lawful.{Lawful, apart, first_bad}
use Rattle.snd_reader.proofs.Live.{IsMore, HasNoEnd, EndsLast, aligned, end_last_once}

token-more : (kind : TokenKind) (bytes : List ℕ) → IsMore (lexeme_of kind bytes)
token-more kinds.Word bytes = tt
token-more kinds.Open bytes = tt
token-more kinds.Close bytes = tt
token-more kinds.Equals bytes = tt

placed-no-end : (base : ℕ) (text : List ℕ) (tokens : List Token) → HasNoEnd (map (place base text) tokens)
placed-no-end base text [] = tt
placed-no-end base text (t ∷ ts) = (token-more t.kind (token_bytes text t), placed-no-end base text ts)

kind-apart : (at : ℕ) (c : Complaint) → (Header ≡ fault_at at c → ⊥) × ((n : ℕ) → Control n ≡ fault_at at c → ⊥) × ((n : ℕ) → Unknown n ≡ fault_at at c → ⊥)
kind-apart at (complaints.Unexpected w) = ((λ e. cc), (λ n e. cc), (λ n e. cc))
kind-apart at (complaints.Number f) = ((λ e. cc), (λ n e. cc), (λ n e. cc))
kind-apart at complaints.Twice = ((λ e. cc), (λ n e. cc), (λ n e. cc))
kind-apart at complaints.LongId = ((λ e. cc), (λ n e. cc), (λ n e. cc))
kind-apart at complaints.Ended = ((λ e. cc), (λ n e. cc), (λ n e. cc))

module _ (d : Dialect) (line : List ℕ) where
  -- the end of a text's tokens stands at the length of the text
  pub has-end : (text : List ℕ) (ts : List Placed) → HasTokens d line text ts → EndsLast ts
  has-end text ts h =
      let base = length text - length h.rest in
      record {
        front = map (place base h.rest) h.tokens;
        last = record { at = base + length h.rest; is = the_end };
        is_end = refl;
        before = placed-no-end base h.rest h.tokens;
        whole = h.these;
      }

  -- the end among the tokens of a text stands as many bytes behind the header line as follow that line
  pub end_place : (text : List ℕ) (ts : List Placed) (h : HasTokens d line text ts) → (has-end text ts h).last.at ≡ length text - length h.rest + length h.rest
  unfolding has-end
  end_place text ts h = refl

  module _ {A B : Type 0} (F : List Placed → A → Type 0) (r : Reader B) (HasUnknown : List ℕ → ℕ → Type 0) where
    -- a text without tokens has a fault
    pub cut_fault : (text : List ℕ) (f : TextFault) → IsCutFault d line text f → IsFaultOf d line F r HasUnknown text f
    cut_fault text OutOfMemory k = tt
    cut_fault text (Control at) k = k
    cut_fault text Header k = k
    cut_fault text f k = absurd k

  module _ {A : Type 0} (F : List Placed → A → Type 0) (r : Reader A) (law : Lawful F r) (ends : (l : List Placed) (x : A) → F l x → EndsLast l) where
    -- what is read of a text reaches its end
    pub reaches_end : (text : List ℕ) (ts : List Placed) (x : A) (rest : List Placed) → HasTokens d line text ts → r ts ≡ Ok (x, rest) → F ts x
    reaches_end text ts x rest h e =
        let k = law.takes ts x rest e in
        let last = has-end text ts h in
        let l = ends k.front x k.form in
        let same : l.front ++ (l.last ∷ rest) ≡ last.front ++ last.last ∷ [] =
        sym (append_assoc l.front (l.last ∷ []) rest) ∙ ap (λ (us : List Placed). us ++ rest) (sym l.whole) ∙ sym k.whole ∙ last.whole in
        let none : rest ≡ [] = aligned l.front last.front rest l.last last.last l.is_end last.before same in
        let whole : ts ≡ k.front = k.whole ∙ ap (λ (us : List Placed). k.front ++ us) none ∙ append-nil k.front in
        subst (λ (us : List Placed). F us x) (sym whole) k.form

    -- the reader of a text that has an end stops at a token
    stops_at_token : (a : List Placed) (e : Placed) (c : Complaint) → e.is ≡ the_end → r (a ++ e ∷ []) ≡ Err (c, []) → ⊥
    stops_at_token a e c is g =
        let k = law.stops (a ++ e ∷ []) c [] g in
        let whole : a ++ e ∷ [] ≡ k.front = k.whole ∙ append-nil k.front in
        let form : F ((a ++ e ∷ []) ++ k.begun.0) k.begun.1 = subst (λ (l : List Placed). F (l ++ k.begun.0) k.begun.1) (sym whole) k.begun.2 in
        let none : k.begun.0 ≡ [] = end_last_once a k.begun.0 e is (ends ((a ++ e ∷ []) ++ k.begun.0) k.begun.1 form) in
        let again : r ((a ++ e ∷ []) ++ []) ≡ Ok (k.begun.1, []) = law.again (a ++ e ∷ []) k.begun.1 [] (subst (λ (l : List Placed). F l k.begun.1) (ap (λ (l : List Placed). (a ++ e ∷ []) ++ l) none ∙ append-nil (a ++ e ∷ [])) form) in
        apart (sym g ∙ ap r (sym (append-nil (a ++ e ∷ []))) ∙ again)

    -- who blames a token of a text blames the first bad one
    pub has_bad : (text : List ℕ) (ts : List Placed) (f : TextFault) → HasTokens d line text ts → Blames f (r ts) → HasBad d line F r text f
    has_bad text ts f h b = by b.rest b.stops b.is
      where
        by : (rest : List Placed) → r ts ≡ Err (b.complaint, rest) → f ≡ fault_at (first_of rest).at b.complaint → HasBad d line F r text f
        by [] e i =
            let k = has-end text ts h in
            absurd (stops_at_token k.front k.last b.complaint k.is_end (ap r (sym k.whole) ∙ e))
        by (t ∷ after) e i = record { ts = ts; tokens = h; bad = t; after = after; first = first_bad F r law ts b.complaint t after e; complaint = b.complaint; says = e; is = i }

    -- what stops the reading is a fault of the text
    pub bad_fault : (HasUnknown : List ℕ → ℕ → Type 0) (text : List ℕ) (ts : List Placed) (f : TextFault) → HasTokens d line text ts → Fails f (r ts) → IsFaultOf d line F r HasUnknown text f
    bad_fault U text ts OutOfMemory h b = tt
    bad_fault U text ts Header h b = absurd ((kind-apart (first_of b.rest).at b.complaint).0 b.is)
    bad_fault U text ts (Control at) h b = absurd ((kind-apart (first_of b.rest).at b.complaint).1 at b.is)
    bad_fault U text ts (Unknown at) h b = absurd ((kind-apart (first_of b.rest).at b.complaint).2 at b.is)
    bad_fault U text ts f h b = has_bad text ts f h b
