-- That a text ends too soon is told at its end alone.
use Rattle.std.proofs.Common.{◌≡◌, ℕ, zero, suc, List, [], ◌∷◌, length, Option, Some, None, refl, sym, ap, subst, ◌∙◌}
use Rattle.std.specs.Prelude.{Result, Ok, Err}
use Rattle.scaled_numbers.specs.declared.fault.NumberFault.{NumberFault}
use Rattle.scaled_numbers.specs.Scanning.{decimal_of}
use Rattle.snd_reader.specs.declared.fault.Complaint.{Complaint}
use Rattle.snd_reader.specs.declared.fault.Complaint.TheVariants.{Ended}
use Rattle.snd_reader.specs.Readers.{Lexeme, word, the_end, Placed, Stopped, Reader, ◌>>=◌, done, bind, judged, token, turn, turns, items}
use Rattle.snd_reader.specs.Tests.{open_test, close_test, equals_test, numbered, number_test}
use Rattle.snd_reader.proofs.Lawful.{stopped_at, err-parts, apart}

-- the reader tells that the text ends at its end alone
pub record EndsAtEnd {A : Type 0} (r : Reader A) : Type 0 where
  pub at_end : (ts : List Placed) (t : Placed) (rest : List Placed) → r ts ≡ stopped_at Ended (t ∷ rest) → t.is ≡ the_end

-- a stop where no token is left is not a stop at a token
pub not-there : (A : Type 0) (t : Placed) (rest : List Placed) → stopped_at {A = A} Ended [] ≡ stopped_at Ended (t ∷ rest) → ⊥
not-there A t rest e = let none : [] ≡ t ∷ rest = (err-parts A Ended Ended [] (t ∷ rest) e).1 in cc

-- the complaint is told of the token that it is about
pub here : (A : Type 0) (c : Complaint) (u t : Placed) (us rest : List Placed) → stopped_at {A = A} c (u ∷ us) ≡ stopped_at Ended (t ∷ rest) → (c ≡ Ended → u.is ≡ the_end) → t.is ≡ the_end
here A c u t us rest e only =
    let p = err-parts A c Ended (u ∷ us) (t ∷ rest) e in
    let tokens : u ∷ us ≡ t ∷ rest = p.1 in
    let same : u ≡ t = cc in
    subst (λ (v : Placed). v.is ≡ the_end) same (only p.0)

-- a reader that reads nothing never tells that the text ends
pub ends_done : {A : Type 0} (v : A) → EndsAtEnd (done v)
ends_done v = record { at_end = λ ts t rest e. absurd (apart (sym e)) }

-- a reader of one token tells that the text ends at its end alone, where its test does
pub ends_token : {A : Type 0} (test : Placed → Result A Complaint) → ((t : Placed) → test t ≡ Err Ended → t.is ≡ the_end) → EndsAtEnd (token test)
ends_token {A} test only = record { at_end = λ ts t rest e. by ts t rest e }
  where
    by-test : (u t : Placed) (us rest : List Placed) (j : Result A Complaint) → test u ≡ j → judged u us j ≡ stopped_at Ended (t ∷ rest) → t.is ≡ the_end
    by-test u t us rest (Ok x) h e = absurd (apart (sym e))
    by-test u t us rest (Err c) h e = here A c u t us rest e (λ k. only u (h ∙ ap (λ (d : Complaint). Err d) k))

    by : (ts : List Placed) (t : Placed) (rest : List Placed) → token test ts ≡ stopped_at Ended (t ∷ rest) → t.is ≡ the_end
    by [] t rest e = absurd (not-there A t rest e)
    by (u ∷ us) t rest e = by-test u t us rest (test u) refl e

-- a stop in one part is a stop of the whole
same-stop : (A X : Type 0) (y : Stopped) (t : Placed) (rest : List Placed) → stopped_at {A = X} y.0 y.1 ≡ stopped_at Ended (t ∷ rest) → stopped_at {A = A} y.0 y.1 ≡ stopped_at Ended (t ∷ rest)
same-stop A X y t rest e = let p = err-parts X y.0 Ended y.1 (t ∷ rest) e in rw (p.0, p.1) refl

-- two readers one after the other tell that the text ends at its end alone, where each of them does
pub ends_bind : {A X : Type 0} (r : Reader A) (s : A → Reader X) → EndsAtEnd r → ((x : A) → EndsAtEnd (s x)) → EndsAtEnd (bind r s)
ends_bind {A} {X} r s first after = record { at_end = λ ts t rest e. by ts t rest (r ts) refl e }
  where
    by : (ts : List Placed) (t : Placed) (rest : List Placed) (o : Result (A × List Placed) Stopped) → r ts ≡ o → (o >>= λ p. s p.0 p.1) ≡ stopped_at Ended (t ∷ rest) → t.is ≡ the_end
    by ts t rest (Ok p) h e = (after p.0).at_end p.1 t rest e
    by ts t rest (Err y) h e = first.at_end ts t rest (h ∙ same-stop A X y t rest e)

module _ {S H : Type 0} (head : S → Placed → Result (Option H) Complaint) (body : S → H → Reader S)
    (heads : (s : S) (t : Placed) → head s t ≡ Err Ended → t.is ≡ the_end) (bodies : (s : S) (h : H) → EndsAtEnd (body s h)) where
  turn-end : (n : ℕ) (s : S) (u t : Placed) (us rest : List Placed) (j : Result (Option H) Complaint) → ((next : S) (vs : List Placed) → turns head body n next vs ≡ stopped_at Ended (t ∷ rest) → t.is ≡ the_end)
      → head s u ≡ j → turn body (turns head body n) s u us j ≡ stopped_at Ended (t ∷ rest) → t.is ≡ the_end
  turn-end n s u t us rest (Ok None) later h e = absurd (apart (sym e))
  turn-end n s u t us rest (Err c) later h e = here S c u t us rest e (λ k. heads s u (h ∙ ap (λ (d : Complaint). Err d) k))
  turn-end n s u t us rest (Ok (Some i)) later h e = by-body (body s i us) refl e
    where
      by-body : (o : Result (S × List Placed) Stopped) → body s i us ≡ o → (o >>= λ p. turns head body n p.0 p.1) ≡ stopped_at Ended (t ∷ rest) → t.is ≡ the_end
      by-body (Ok p) b e = later p.0 p.1 e
      by-body (Err y) b e = (bodies s i).at_end us t rest (b ∙ same-stop S S y t rest e)

  turns-end : (n : ℕ) (s : S) (ts : List Placed) (t : Placed) (rest : List Placed) → turns head body n s ts ≡ stopped_at Ended (t ∷ rest) → t.is ≡ the_end
  unfolding turns
  turns-end zero s ts t rest e = absurd (not-there S t rest e)
  turns-end (suc n) s [] t rest e = absurd (not-there S t rest e)
  turns-end (suc n) s (u ∷ us) t rest e = turn-end n s u t us rest (head s u) (λ next vs k. turns-end n next vs t rest k) refl e

  -- a reader of items tells that the text ends at its end alone, where the tests and readers of items do
  pub ends_items : (s : S) → EndsAtEnd (items head body s)
  ends_items s = record { at_end = λ ts t rest e. turns-end (suc (length ts)) s ts t rest e }

-- ---- single tokens

-- where an opening bracket is wanted, only the end of the text is told as ended too soon
pub open-end : (l : Lexeme) → open_test l ≡ Err Ended → l ≡ the_end
open-end the_end e = refl
open-end l e = absurd cc

-- where a closing bracket is wanted, only the end of the text is told as ended too soon
pub close-end : (l : Lexeme) → close_test l ≡ Err Ended → l ≡ the_end
close-end the_end e = refl
close-end l e = absurd cc

-- what is wrong with the number that a word spells is never that the text ends
pub numbered-end : (o : Result ℕ NumberFault) → numbered o ≡ Err Ended → ⊥
numbered-end (Ok n) e = cc
numbered-end (Err f) e = cc

-- where a number is wanted, only the end of the text is told as ended too soon
pub number-end : (scale : ℕ) (l : Lexeme) → number_test scale l ≡ Err Ended → l ≡ the_end
number-end scale (word bytes) e = absurd (numbered-end (decimal_of bytes scale) e)
number-end scale the_end e = refl
number-end scale l e = absurd cc

-- where an equals sign is wanted, only the end of the text is told as ended too soon
pub equals-end : (l : Lexeme) → equals_test l ≡ Err Ended → l ≡ the_end
equals-end the_end e = refl
equals-end l e = absurd cc
