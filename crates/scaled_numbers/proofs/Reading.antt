-- The answers of reading a text as a number exclude each other.
use Rattle.std.proofs.Common.{◌≡◌, ℕ, ◌+◌, ◌^◌, ◌<◌, ◌≤◌, List, ◌++◌, length, take, drop, refl, sym, ap, subst, ◌∙◌, append_assoc, inl, inr, arith, []}
use Rattle.std.specs.Prelude.{Result, Ok, Err, IfOk, IfErr}
use Rattle.std.specs.Str.Parse.{digits_value}
use Rattle.std.proofs.lemmas.Bool.{cases_lt}
use Rattle.std.proofs.lemmas.List.{take-append-drop, take-take, append-nil}
use Rattle.scaled_numbers.specs.declared.fault.NumberFault.{NumberFault}
use Rattle.scaled_numbers.specs.declared.fault.NumberFault.TheVariants.{NotANumber, Finer, TooLarge}
use Rattle.scaled_numbers.specs.Decimal.{Numeral, Spells, IsBegun, IsScaled, IsRead, IsMisfit, IsFault, raised, lowered}
use Rattle.scaled_numbers.specs.Kept.{IsShifted}
use Rattle.scaled_numbers.proofs.Grammar.{one_numeral}
use Rattle.scaled_numbers.proofs.Powers.{one_value}

abbrev fails : NumberFault → Result ℕ NumberFault
fails f = Err f

begun_front : (k : ℕ) (bytes : List ℕ) → IsBegun bytes → IsBegun (take k bytes)
begun_front k bytes (more, n, h) =
    let e : take k bytes ++ (drop k bytes ++ more) ≡ bytes ++ more = sym (append_assoc (take k bytes) (drop k bytes) more) ∙ ap (λ (t : List ℕ). t ++ more) (take-append-drop k bytes) in
    (drop k bytes ++ more, n, record { number = h.number; bytes = e ∙ h.bytes })

number-begun : (text : List ℕ) (n : Numeral) → Spells text n → IsBegun text
number-begun text n h = ([], n, record { number = h.number; bytes = append-nil text ∙ h.bytes })

not-misfit : (text : List ℕ) (n : Numeral) (at : ℕ) → Spells text n → IsMisfit text at → ⊥
not-misfit text n at h m =
    elim (cases_lt at (length text)) [
      | inl lt ↦ m.byte lt (begun_front (at + 1) text (number-begun text n h))
      | inr le ↦ m.end (omega (arith, m.within)) n h
    ]

apart : (text : List ℕ) (a b : ℕ) → IsMisfit text a → IsMisfit text b → a < b → ⊥
apart text a b x y lt =
    x.byte (omega (arith, y.within)) (subst IsBegun (take-take (a + 1) b text (omega arith)) (begun_front (a + 1) (take b text) y.begun))

one-misfit : (text : List ℕ) (a b : ℕ) → IsMisfit text a → IsMisfit text b → a ≡ b
one-misfit text a b x y =
    elim (cases_lt a b) [
      | inl lt ↦ absurd (apart text a b x y lt)
      | inr le ↦ elim (cases_lt b a) [ inl lt ↦ absurd (apart text b a y x lt) | inr ge ↦ omega arith ]
    ]

-- what is answered, and nothing else
pub record Answers (text : List ℕ) (scale : ℕ) (r : Result ℕ NumberFault) : Type 0 where
  pub read : IfOk r (λ v. IsRead text scale v)
  pub read_only : (v : ℕ) → IsRead text scale v → r ≡ Ok v
  pub fault : IfErr r (λ f. IsFault text scale f)
  pub fault_only : (f : NumberFault) → IsFault text scale f → r ≡ Err f

-- a text spells one value at a scale
pub one-scaled : (text : List ℕ) (scale : ℕ) (m n : Numeral) (v w : ℕ) → Spells text m → Spells text n → IsScaled scale m v → IsScaled scale n w → v ≡ w
one-scaled text scale m n v w a b x y =
    one_value (digits_value 10 (n.whole ++ n.fraction)) v w (scale + raised n.power) (length n.fraction + lowered n.power) (subst (λ (k : Numeral). IsScaled scale k v) (one_numeral text m n a b) x) y

module _ (text : List ℕ) (scale : ℕ) (n : Numeral) (h : Spells text n) where
  read-is : (v : ℕ) → IsScaled scale n v → v < 10 ^ (12 + scale) → Answers text scale (Ok v)
  read-is v x small = record {
    read = record { spelt = record { numeral = n; spells = h; value = x }; small = small };
    read_only = λ w r. ap (λ (k : ℕ). Ok k) (one-scaled text scale n r.spelt.numeral v w h r.spelt.spells x r.spelt.value);
    fault = tt;
    fault_only = λ f k. absurd (no-fault f k);
  }
    where
      no-fault : (f : NumberFault) → IsFault text scale f → ⊥
      no-fault (NotANumber at) k = not-misfit text n at h k
      no-fault Finer k = k.no_value v (subst (λ (m : Numeral). IsScaled scale m v) (one_numeral text n k.numeral h k.spells) x)
      no-fault TooLarge k = omega (arith, one-scaled text scale n k.spelt.numeral v k.v h k.spelt.spells x k.spelt.value, k.large)

  finer-is : ((v : ℕ) → IsScaled scale n v → ⊥) → Answers text scale (Err Finer)
  finer-is none = record {
    read = tt;
    read_only = λ w r. absurd (none w (subst (λ (m : Numeral). IsScaled scale m w) (one_numeral text r.spelt.numeral n r.spelt.spells h) r.spelt.value));
    fault = record { numeral = n; spells = h; no_value = none };
    fault_only = λ f k. same f k;
  }
    where
      same : (f : NumberFault) → IsFault text scale f → fails Finer ≡ fails f
      same (NotANumber at) k = absurd (not-misfit text n at h k)
      same Finer k = refl
      same TooLarge k = absurd (none k.v (subst (λ (m : Numeral). IsScaled scale m k.v) (one_numeral text k.spelt.numeral n k.spelt.spells h) k.spelt.value))

  large-is : (v : ℕ) → IsScaled scale n v → 10 ^ (12 + scale) ≤ v → Answers text scale (Err TooLarge)
  large-is v x large = record {
    read = tt;
    read_only = λ w r. absurd (omega (arith, one-scaled text scale n r.spelt.numeral v w h r.spelt.spells x r.spelt.value, r.small));
    fault = record { v = v; spelt = record { numeral = n; spells = h; value = x }; large = large };
    fault_only = λ f k. same f k;
  }
    where
      same : (f : NumberFault) → IsFault text scale f → fails TooLarge ≡ fails f
      same (NotANumber at) k = absurd (not-misfit text n at h k)
      same Finer k = absurd (k.no_value v (subst (λ (m : Numeral). IsScaled scale m v) (one_numeral text n k.numeral h k.spells) x))
      same TooLarge k = refl

  -- the right shift of a number's digits is the right answer to its text
  pub answers : (r : Result ℕ NumberFault) → IsShifted (digits_value 10 (n.whole ++ n.fraction)) (scale + raised n.power) (length n.fraction + lowered n.power) (10 ^ (12 + scale)) r → Answers text scale r
  answers (Ok v) s = read-is v s.0 s.1
  answers (Err (NotANumber at)) s = absurd s
  answers (Err Finer) s = finer-is s
  answers (Err TooLarge) s = large-is s.0 s.1 s.2

-- a text that is no number is answered with the place where it stops being one
pub misfit_answers : (text : List ℕ) (scale at : ℕ) → IsMisfit text at → Answers text scale (Err (NotANumber at))
misfit_answers text scale at m = record {
  read = tt;
  read_only = λ w r. absurd (not-misfit text r.spelt.numeral at r.spelt.spells m);
  fault = m;
  fault_only = λ f k. same f k;
}
  where
    same : (f : NumberFault) → IsFault text scale f → fails (NotANumber at) ≡ fails f
    same (NotANumber place) k = ap (λ (p : ℕ). fails (NotANumber p)) (one-misfit text at place m k)
    same Finer k = absurd (not-misfit text k.numeral at k.spells m)
    same TooLarge k = absurd (not-misfit text k.spelt.numeral at k.spelt.spells m)

-- there is one answer
pub one-answer : (text : List ℕ) (scale : ℕ) (r q : Result ℕ NumberFault) → Answers text scale r → Answers text scale q → r ≡ q
one-answer text scale (Ok v) q a b = sym (b.read_only v a.read)
one-answer text scale (Err f) q a b = sym (b.fault_only f a.fault)
