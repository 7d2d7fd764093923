-- A loop over items gives what the reader of the items gives.
use Rattle.std.proofs.Common.{◌≡◌, ℕ, zero, suc, ◌<◌, ◌≤◌, List, [], ◌∷◌, length, Option, Some, None, refl, sym, ap, subst, ◌∙◌, arith}
use Rattle.std.specs.Prelude.{Result, Ok, Err}
use Rattle.std.proofs.lemmas.List.{length-append}
use Rattle.snd_reader.specs.declared.fault.Complaint.{Complaint}
use Rattle.snd_reader.specs.declared.fault.TextFault.{TextFault}
use Rattle.snd_reader.specs.Readers.{Placed, Stopped, Reader, ◌>>=◌, judged, token, turn, turns, items}
use Rattle.snd_reader.specs.Faults.{Fails}
use Rattle.snd_reader.proofs.Faults.{through}
use Rattle.snd_reader.proofs.Lawful.{Lawful, read_as, ok-parts}

module _ {S H : Type 0} (head : S → Placed → Result (Option H) Complaint) (body : S → H → Reader S) where
  -- what is left gives the whole, with the items so far
  pub record IsAfter (whole : Result (S × List Placed) Stopped) (s : S) (ts : List Placed) : Type 0 where
    pub left : ℕ
    pub enough : length ts < left
    pub same : turns head body left s ts ≡ whole

  -- before the first turn of a loop, what is left to read gives the whole
  pub begin : (s : S) (ts : List Placed) → IsAfter (items head body s ts) s ts
  begin s ts = record { left = suc (length ts); enough = omega arith; same = refl }

  -- a turn is its head and what follows
  abbrev rest_by : (S → Reader S) → S → Option H → List Placed → Result (S × List Placed) Stopped
  rest_by later s None us = Ok (s, us)
  rest_by later s (Some h) us = body s h us >>= λ p. later p.0 p.1

  turn-by : (later : S → Reader S) (s : S) (t : Placed) (ts : List Placed) (j : Result (Option H) Complaint) → turn body later s t ts j ≡ (judged t ts j >>= λ p. rest_by later s p.0 p.1)
  turn-by later s t ts (Ok None) = refl
  turn-by later s t ts (Ok (Some h)) = refl
  turn-by later s t ts (Err c) = refl

  turns-by : (n : ℕ) (s : S) (ts : List Placed) → turns head body (suc n) s ts ≡ (token (head s) ts >>= λ p. rest_by (turns head body n) s p.0 p.1)
  unfolding turns
  turns-by n s [] = refl
  turns-by n s (t ∷ ts) = turn-by (turns head body n) s t ts (head s t)

  record IsTurn (whole : Result (S × List Placed) Stopped) (s : S) (ts : List Placed) : Type 0 where
    left : ℕ
    enough : length ts < suc left
    same : (token (head s) ts >>= λ p. rest_by (turns head body left) s p.0 p.1) ≡ whole

  one : (whole : Result (S × List Placed) Stopped) (s : S) (ts : List Placed) → IsAfter whole s ts → IsTurn whole s ts
  one whole s ts a = by-left a.left a.enough a.same
    where
      by-left : (n : ℕ) → length ts < n → turns head body n s ts ≡ whole → IsTurn whole s ts
      by-left zero lt e = absurd (omega arith)
      by-left (suc n) lt e = record { left = n; enough = lt; same = sym (turns-by n s ts) ∙ e }

  -- the head stops
  pub head_fails : (whole : Result (S × List Placed) Stopped) (s : S) (ts : List Placed) (f : TextFault) → IsAfter whole s ts → Fails f (token (head s) ts) → Fails f whole
  head_fails whole s ts f a h =
      let o = one whole s ts a in
      subst (λ (w : Result (S × List Placed) Stopped). Fails f w) o.same (through f (token (head s) ts) (λ p. rest_by (turns head body o.left) s p.0 p.1) h)

  -- the head ends the list
  pub closes : (whole : Result (S × List Placed) Stopped) (s : S) (ts us : List Placed) → IsAfter whole s ts → token (head s) ts ≡ Ok (None, us) → whole ≡ Ok (s, us)
  closes whole s ts us a h =
      let o = one whole s ts a in
      sym o.same ∙ ap (λ (w : Result (Option H × List Placed) Stopped). w >>= λ p. rest_by (turns head body o.left) s p.0 p.1) h

  -- the body stops
  pub body_fails : (whole : Result (S × List Placed) Stopped) (s : S) (ts us : List Placed) (h : H) (f : TextFault) → IsAfter whole s ts → token (head s) ts ≡ Ok (Some h, us) → Fails f (body s h us) → Fails f whole
  body_fails whole s ts us h f a e b =
      let o = one whole s ts a in
      let same : (body s h us >>= λ p. turns head body o.left p.0 p.1) ≡ whole =
      sym (ap (λ (w : Result (Option H × List Placed) Stopped). w >>= λ p. rest_by (turns head body o.left) s p.0 p.1) e) ∙ o.same in
      subst (λ (w : Result (S × List Placed) Stopped). Fails f w) same (through f (body s h us) (λ p. turns head body o.left p.0 p.1) b)

  -- an item is read, and there is more
  pub goes_on : (whole : Result (S × List Placed) Stopped) (s next : S) (ts us vs : List Placed) (h : H) → IsAfter whole s ts → token (head s) ts ≡ Ok (Some h, us) → body s h us ≡ Ok (next, vs) → length vs < length ts → IsAfter whole next vs
  goes_on whole s next ts us vs h a e b shorter =
      let o = one whole s ts a in
      record {
        left = o.left;
        enough = omega (arith, o.enough, shorter);
        same = sym (ap (λ (w : Result (Option H × List Placed) Stopped). w >>= λ p. rest_by (turns head body o.left) s p.0 p.1) e
            ∙ ap (λ (w : Result (S × List Placed) Stopped). w >>= λ p. turns head body o.left p.0 p.1) b) ∙ o.same;
      }

-- ---- what is left is shorter

-- where a token is read, fewer tokens are left
pub token_shorter : {A : Type 0} (test : Placed → Result A Complaint) (x : A) (ts us : List Placed) → token test ts ≡ Ok (x, us) → length us < length ts
token_shorter test x [] us e = absurd cc
token_shorter {A} test x (t ∷ ts) us e = by (test t) e
  where
    by : (j : Result A Complaint) → judged t ts j ≡ read_as x us → length us < length (t ∷ ts)
    by (Ok y) e = let p = ok-parts y x ts us e in omega (arith, ap length p.1)
    by (Err c) e = absurd cc

-- what a lawful reader leaves is no longer than what it began with
pub not_longer : {A : Type 0} (F : List Placed → A → Type 0) (r : Reader A) → Lawful F r → (x : A) (ts us : List Placed) → r ts ≡ Ok (x, us) → length us ≤ length ts
not_longer F r law x ts us e = let k = law.takes ts x us e in omega (arith, ap length k.whole, length-append k.front us)
