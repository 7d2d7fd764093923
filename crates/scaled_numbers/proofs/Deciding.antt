-- Reading as a function gives the answers of reading as a relation.
use Rattle.std.proofs.Common.{◌≡◌, ℕ, suc, ◌+◌, ◌*◌, ◌^◌, ◌<◌, ◌/◌, ◌%◌, Bool, true, false, ltb, eqb, List, [], ◌∷◌, ◌++◌, length, take, Option, Some, None, refl, sym, ap, subst, ◌∙◌, ◌⊎◌, inl, inr, arith, add-one}
use Rattle.std.specs.Prelude.{Result, Ok, Err, IfOk, IfErr, ◌↔◌}
use Rattle.std.specs.Str.Parse.{digits_value}
use Rattle.std.specs.Option.{option_and_then}
use Rattle.std.proofs.lemmas.Bool.{eqb-true, eqb-false, ltb-true, ltb-false}
use Rattle.std.proofs.lemmas.Option.{some_pair_parts}
use Rattle.std.proofs.lemmas.List.{take_all}
use Rattle.std.proofs.Math.Nat.{div-add-mod', mul-mod_left}
use Rattle.scaled_numbers.specs.declared.fault.NumberFault.{NumberFault}
use Rattle.scaled_numbers.specs.Decimal.{Numeral, IsRead, IsMisfit, IsFault, raised, lowered}
use Rattle.scaled_numbers.specs.Scanning.{State, next, run, start, is_last, quotient, value_at, stop_place, decided, decimal_of}
use Rattle.scaled_numbers.proofs.Grammar.{run_reached, run_begun, begun_run, is_number, spelled_run}
use Rattle.scaled_numbers.specs.Kept.{IsShifted}
use Rattle.scaled_numbers.proofs.Reading.{Answers, answers, misfit_answers, one-answer}
use Rattle.scaled_numbers.proofs.Powers.{one-le-ten}

went : (x : Bool) → (x ≡ true) ⊎ (x ≡ false)
went true = inl refl
went false = inr refl

divides : (top bottom : ℕ) → 0 < bottom → top % bottom ≡ 0 → top ≡ top / bottom * bottom
divides top bottom some e = omega (arith, div-add-mod' top bottom, e)

not-divides : (top bottom v : ℕ) → 0 < bottom → (top % bottom ≡ 0 → ⊥) → top ≡ v * bottom → ⊥
not-divides top bottom v some h e = h (ap (λ (n : ℕ). n % bottom) e ∙ mul-mod_left v bottom)

-- a quotient below the limit, or why it is none
quotient-is : (n up down limit : ℕ) → IsShifted n up down limit (quotient (n * 10 ^ up) (10 ^ down) limit)
quotient-is n up down limit = by-rest (went (eqb (top % bottom) 0))
  where
    top : ℕ
    top = n * 10 ^ up

    bottom : ℕ
    bottom = 10 ^ down

    some : 0 < bottom
    some = one-le-ten down

    by-limit : eqb (top % bottom) 0 ≡ true → ((ltb (top / bottom) limit ≡ true) ⊎ (ltb (top / bottom) limit ≡ false)) → IsShifted n up down limit (quotient top bottom limit)
    by-limit e (inl lt) = rw (e, lt) (divides top bottom some (eqb-true (top % bottom) 0 e), ltb-true _ _ lt)
    by-limit e (inr ge) = rw (e, ge) (top / bottom, divides top bottom some (eqb-true (top % bottom) 0 e), ltb-false _ _ ge)

    by-rest : ((eqb (top % bottom) 0 ≡ true) ⊎ (eqb (top % bottom) 0 ≡ false)) → IsShifted n up down limit (quotient top bottom limit)
    by-rest (inl e) = by-limit e (went (ltb (top / bottom) limit))
    by-rest (inr e) = rw e (λ v q. not-divides top bottom v some (eqb-false (top % bottom) 0 e) q)

value-is : (scale : ℕ) (n : Numeral) → IsShifted (digits_value 10 (n.whole ++ n.fraction)) (scale + raised n.power) (length n.fraction + lowered n.power) (10 ^ (12 + scale)) (value_at scale n)
value-is scale n = quotient-is (digits_value 10 (n.whole ++ n.fraction)) (scale + raised n.power) (length n.fraction + lowered n.power) (10 ^ (12 + scale))

module _ (text : List ℕ) (scale : ℕ) where
  unfinished : (s : State) → run start text ≡ Some s → is_last s.0 ≡ false → IsMisfit text (length text)
  unfinished s e open_end = record {
    within = omega arith;
    begun = rw (take_all (length text) text (omega arith)) (run_begun text s e);
    byte = λ lt. absurd (omega arith);
    end = λ _ m h.
        (let l = spelled_run text m h in
        let p = some_pair_parts l.stage s.0 m s.1 (sym l.run ∙ e) in
        let apart : true ≡ false = sym l.last ∙ ap is_last p.0 ∙ open_end in
        cc);
  }

  -- where a run ends: it is told by what the front leads to
  record StopsAt (front rest : List ℕ) (s : State) : Type 0 where
    shorter : stop_place s rest < length rest
    alive : (t : State) × (run s (take (stop_place s rest) rest) ≡ Some t)
    dead : run s (take (suc (stop_place s rest)) rest) ≡ None

  stops : (rest : List ℕ) (s : State) → run s rest ≡ None → StopsAt [] rest s
  unfolding run stop_place
  stops [] s e = absurd cc
  stops (b ∷ rest) s e = by-next (next s b) refl e (λ t q. stops rest t q)
    where
      by-next : (o : Option State) → next s b ≡ o → option_and_then (λ t. run t rest) o ≡ None → ((t : State) → run t rest ≡ None → StopsAt [] rest t) → StopsAt [] (b ∷ rest) s
      by-next None n e later = record { shorter = rw n (omega arith); alive = rw n (s, refl); dead = rw n refl }
      by-next (Some t) n e later =
          let k = later t e in
          record { shorter = rw n (omega (arith, k.shorter)); alive = rw n (k.alive.0, rw n k.alive.1); dead = rw n k.dead }

  -- reading as a function answers as the relation says
  pub answered : Answers text scale (decimal_of text scale)
  unfolding decimal_of
  answered = by-run (run start text) refl
    where
      by-last : (s : State) → run start text ≡ Some s → ((is_last s.0 ≡ true) ⊎ (is_last s.0 ≡ false)) → Answers text scale (decided text scale (Some s))
      by-last s e (inl l) = let k = run_reached text s e in rw l (answers text scale s.1 (record { number = is_number s.0 s.1 k.0 l; bytes = k.1 }) (value_at scale s.1) (value-is scale s.1))
      by-last s e (inr l) = rw l (misfit_answers text scale (length text) (unfinished s e l))

      by-run : (o : Option State) → run start text ≡ o → Answers text scale (decided text scale o)
      by-run (Some s) e = by-last s e (went (is_last s.0))
      by-run None e =
          let k = stops text start e in
          misfit_answers text scale (stop_place start text) (record {
            within = omega (arith, k.shorter);
            begun = run_begun _ k.alive.0 k.alive.1;
            byte = λ _ b. begun_run _ b (rw add-one k.dead);
            end = λ e. absurd (omega (arith, k.shorter));
          })

  -- an answer that is right by the relation is that of the function
  pub decides : (r : Result ℕ NumberFault) → Answers text scale r → r ≡ decimal_of text scale
  decides r a = one-answer text scale r (decimal_of text scale) a answered

-- what is answered, from its being the function's answer
pub reads : (text : List ℕ) (scale : ℕ) (r : Result ℕ NumberFault) → r ≡ decimal_of text scale → (v : ℕ) → (r ≡ Ok v) ↔ IsRead text scale v
reads text scale r e v =
    let a = subst (λ (q : Result ℕ NumberFault). Answers text scale q) (sym e) (answered text scale) in
    (λ is. subst (λ (q : Result ℕ NumberFault). IfOk q (λ w. IsRead text scale w)) is a.read, λ h. a.read_only v h)

-- an answer of the function is a fault exactly where the relation has that fault
pub faults : (text : List ℕ) (scale : ℕ) (r : Result ℕ NumberFault) → r ≡ decimal_of text scale → (f : NumberFault) → (r ≡ Err f) ↔ IsFault text scale f
faults text scale r e f =
    let a = subst (λ (q : Result ℕ NumberFault). Answers text scale q) (sym e) (answered text scale) in
    (λ is. subst (λ (q : Result ℕ NumberFault). IfErr q (λ g. IsFault text scale g)) is a.fault, λ h. a.fault_only f h)

-- a value that is read is below ten to the twelve and the scale
pub is-small : (text : List ℕ) (scale : ℕ) (r : Result ℕ NumberFault) → Answers text scale r → IfOk r (λ v. v < 10 ^ (12 + scale))
is-small text scale (Ok v) a = a.read.small
is-small text scale (Err f) a = tt
