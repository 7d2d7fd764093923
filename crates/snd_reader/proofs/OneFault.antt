-- A text has one list of tokens at most, and one fault at most; where it is read, it has none.
use Rattle.std.proofs.Common.{◌≡◌, ℕ, ◌+◌, ◌-◌, List, [], ◌∷◌, ◌++◌, length, refl, sym, ap, subst, ◌∙◌, inl, inr}
use Rattle.std.specs.Prelude.{Ok, Err}
use Rattle.std.proofs.lemmas.List.{append-nil}
use Rattle.snd_lexer.specs.declared.token.Dialect.{Dialect}
use Rattle.snd_lexer.specs.Cutting.{Lexes, StopsAt}
use Rattle.snd_lexer.proofs.Cuts.{only_tokens, only_stop, not_both}
use Rattle.snd_reader.specs.declared.fault.TextFault.{TextFault}
use Rattle.snd_reader.specs.declared.fault.TextFault.TheVariants.{Header, Unexpected, Number, Twice, Unknown, Ended, LongId, Control, OutOfMemory}
use Rattle.snd_reader.specs.Readers.{Placed, Reader}
use Rattle.snd_reader.specs.Faults.{fault_at}
use Rattle.snd_reader.specs.Tokens.{placed}
use Rattle.snd_reader.specs.Texts.{HasTokens, HasNoHeader, HasControl, HasBad, IsFaultOf, AreOneFault}
use Rattle.snd_reader.proofs.Lawful.{Lawful, err-parts, apart}
use Rattle.snd_reader.proofs.Headers.{one_rest}

first-of-two : {A : Type 0} (x y : A) (xs ys : List A) → x ∷ xs ≡ y ∷ ys → x ≡ y
first-of-two x y xs ys e = cc

-- the kinds of faults
data Kind : Type 0 where
  memory : Kind
  header : Kind
  control : ℕ → Kind
  unknown : ℕ → Kind
  bad : Kind

abbrev kind_of : TextFault → Kind
kind_of OutOfMemory = memory
kind_of Header = header
kind_of (Control at) = control at
kind_of (Unknown at) = unknown at
kind_of (Unexpected at w) = bad
kind_of (Number at g) = bad
kind_of (Twice at) = bad
kind_of (Ended at) = bad
kind_of (LongId at) = bad

-- the tokens of the text are read to their end
pub record IsReadWhole {B : Type 0} (d : Dialect) (line : List ℕ) (r : Reader B) (text : List ℕ) : Type 0 where
  pub ts : List Placed
  pub tokens : HasTokens d line text ts
  pub value : B
  pub reads : r ts ≡ Ok (value, [])

module _ (d : Dialect) (line text : List ℕ) where
  -- a text has one list of tokens at most
  pub same_tokens : (ts us : List Placed) → HasTokens d line text ts → HasTokens d line text us → ts ≡ us
  same_tokens ts us h k =
      let rest : h.rest ≡ k.rest = one_rest line text h.rest k.rest h.header k.header in
      let tokens : h.tokens ≡ k.tokens = only_tokens d k.rest h.tokens k.tokens (subst (λ (r : List ℕ). Lexes d r h.tokens) rest h.cut) k.cut in
      h.these ∙ ap (λ (r : List ℕ). placed (length text - length r) r h.tokens) rest ∙ ap (placed (length text - length k.rest) k.rest) tokens ∙ sym k.these

  no-header : HasNoHeader line text → (ts : List Placed) → HasTokens d line text ts → ⊥
  no-header lacks ts h = lacks h.rest h.header

  no-control : (ts : List Placed) (at : ℕ) → HasTokens d line text ts → HasControl d line text at → ⊥
  no-control ts at h c = not_both d c.rest h.tokens c.place (subst (λ (r : List ℕ). Lexes d r h.tokens) (one_rest line text h.rest c.rest h.header c.header) h.cut) c.stops

  one-control : (a b : ℕ) → HasControl d line text a → HasControl d line text b → a ≡ b
  one-control a b h k =
      let rest : h.rest ≡ k.rest = one_rest line text h.rest k.rest h.header k.header in
      let place : h.place ≡ k.place = only_stop d k.rest h.place k.place (subst (λ (r : List ℕ). StopsAt d r h.place) rest h.stops) k.stops in
      h.is ∙ ap (λ (r : List ℕ). length text - length r + h.place) rest ∙ ap (λ (n : ℕ). length text - length k.rest + n) place ∙ sym k.is

  -- what has the form of a lawful reader is read to its end
  pub read_whole : {A : Type 0} (F : List Placed → A → Type 0) (r : Reader A) → Lawful F r → (ts : List Placed) (x : A) → HasTokens d line text ts → F ts x → IsReadWhole d line r text
  read_whole F r law ts x h f = record { ts = ts; tokens = h; value = x; reads = ap r (sym (append-nil ts)) ∙ law.again ts x [] f }

  module _ {A B : Type 0} (F : List Placed → A → Type 0) (r : Reader B) (HasUnknown : List ℕ → ℕ → Type 0) where
    no-bad : (f : TextFault) → IsReadWhole d line r text → HasBad d line F r text f → ⊥
    no-bad f h b = apart (sym b.says ∙ ap r (same_tokens b.ts h.ts b.tokens h.tokens) ∙ h.reads)

    one-bad : (f g : TextFault) → HasBad d line F r text f → HasBad d line F r text g → f ≡ g
    one-bad f g h k =
        let ts : h.ts ≡ k.ts = same_tokens h.ts k.ts h.tokens k.tokens in
        let p = err-parts B h.complaint k.complaint (h.bad ∷ h.after) (k.bad ∷ k.after) (sym h.says ∙ ap r ts ∙ k.says) in
        let token : h.bad ≡ k.bad = first-of-two h.bad k.bad h.after k.after p.1 in
        h.is ∙ ap (λ (t : Placed). fault_at t.at h.complaint) token ∙ ap (fault_at k.bad.at) p.0 ∙ sym k.is

    -- a text that is read has no fault but unknown names
    pub no_fault : IsReadWhole d line r text → ((at : ℕ) → HasUnknown text at → ⊥) → (f : TextFault) → IsFaultOf d line F r HasUnknown text f → f ≡ OutOfMemory
    no_fault h none OutOfMemory k = refl
    no_fault h none Header k = absurd (no-header k h.ts h.tokens)
    no_fault h none (Control at) k = absurd (no-control h.ts at h.tokens k)
    no_fault h none (Unknown at) k = absurd (none at k)
    no_fault h none (Unexpected at w) k = absurd (no-bad (Unexpected at w) h k)
    no_fault h none (Number at g) k = absurd (no-bad (Number at g) h k)
    no_fault h none (Twice at) k = absurd (no-bad (Twice at) h k)
    no_fault h none (Ended at) k = absurd (no-bad (Ended at) h k)
    no_fault h none (LongId at) k = absurd (no-bad (LongId at) h k)

    abbrev Has : TextFault → Kind → Type 0
    Has f memory = f ≡ OutOfMemory
    Has f header = HasNoHeader line text × (f ≡ Header)
    Has f (control at) = HasControl d line text at × (f ≡ Control at)
    Has f (unknown at) = HasUnknown text at × (f ≡ Unknown at)
    Has f bad = HasBad d line F r text f

    has : (f : TextFault) → IsFaultOf d line F r HasUnknown text f → Has f (kind_of f)
    has OutOfMemory k = refl
    has Header k = (k, refl)
    has (Control at) k = (k, refl)
    has (Unknown at) k = (k, refl)
    has (Unexpected at w) k = k
    has (Number at g) k = k
    has (Twice at) k = k
    has (Ended at) k = k
    has (LongId at) k = k

    module _ (one_unknown : (a b : ℕ) → HasUnknown text a → HasUnknown text b → a ≡ b) (is_read : (at : ℕ) → HasUnknown text at → IsReadWhole d line r text) where
      same-fault : (f g : TextFault) (a b : Kind) → Has f a → Has g b → AreOneFault f g
      same-fault f g memory b h k = inl h
      same-fault f g a memory h k = inr (inl k)
      same-fault f g header header h k = inr (inr (h.1 ∙ sym k.1))
      same-fault f g header (control y) h k = absurd (h.0 k.0.rest k.0.header)
      same-fault f g header (unknown y) h k = let u = is_read y k.0 in absurd (no-header h.0 u.ts u.tokens)
      same-fault f g header bad h k = absurd (no-header h.0 k.ts k.tokens)
      same-fault f g (control x) header h k = absurd (k.0 h.0.rest h.0.header)
      same-fault f g (control x) (control y) h k = inr (inr (h.1 ∙ ap (λ (n : ℕ). Control n) (one-control x y h.0 k.0) ∙ sym k.1))
      same-fault f g (control x) (unknown y) h k = let u = is_read y k.0 in absurd (no-control u.ts x u.tokens h.0)
      same-fault f g (control x) bad h k = absurd (no-control k.ts x k.tokens h.0)
      same-fault f g (unknown x) header h k = let u = is_read x h.0 in absurd (no-header k.0 u.ts u.tokens)
      same-fault f g (unknown x) (control y) h k = let u = is_read x h.0 in absurd (no-control u.ts y u.tokens k.0)
      same-fault f g (unknown x) (unknown y) h k = inr (inr (h.1 ∙ ap (λ (n : ℕ). Unknown n) (one_unknown x y h.0 k.0) ∙ sym k.1))
      same-fault f g (unknown x) bad h k = absurd (no-bad g (is_read x h.0) k)
      same-fault f g bad header h k = absurd (no-header k.0 h.ts h.tokens)
      same-fault f g bad (control y) h k = absurd (no-control h.ts y h.tokens k.0)
      same-fault f g bad (unknown y) h k = absurd (no-bad f (is_read y k.0) h)
      same-fault f g bad bad h k = inr (inr (one-bad f g h k))

      -- a text has one fault
      pub one_fault : (f g : TextFault) → IsFaultOf d line F r HasUnknown text f → IsFaultOf d line F r HasUnknown text g → AreOneFault f g
      one_fault f g h k = same-fault f g (kind_of f) (kind_of g) (has f h) (has g k)
