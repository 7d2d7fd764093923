-- The best of the trials, as one more is tried.
use Rattle.std.proofs.Common.{◌≡◌, ℕ, ◌+◌, ◌*◌, ◌^◌, ◌<◌, ◌≤◌, ◌⊎◌, inl, inr, Bool, true, false, List, Option, Some, None, refl, sym, subst, arith}
use Rattle.std.specs.Prelude.{ℤ, ◌≤ℤ◌, ◌<ℤ◌, int_lt, if◌then◌else◌}
use Rattle.std.proofs.lemmas.Int.{ints}
use Rattle.plan_base.specs.declared.parts.Parts.{Parts}
use Rattle.link_steps.specs.declared.range.LoadRange.{LoadRange}
use Rattle.proof_tree.specs.declared.cuts.Cut.{Cut}
use Rattle.master_step.specs.declared.limits.TheConstants.{MAX_TRIALS}
use Rattle.master_step.specs.declared.climbing.Best.{Best}
use Rattle.master_step.specs.Columns.{Choices}
use Rattle.master_step.specs.Restricted.{IsRestrictedValue}
use Rattle.master_step.specs.Trials.{IsTrial}
use Rattle.master_step.specs.Outcomes.{IsRaise}
use Rattle.master_step.specs.Climbing.{better_of, IsBestOf, AreTried}
use Rattle.master_step.proofs.Uniqueness.{value-unique, trial-unique}

either_way : (x y : ℕ) → (x ≤ y) ⊎ (y < x)
either_way x y = grind arith

-- where the test of two whole numbers says less, the first one is less
pub int_lt-true : (v w : ℤ) → int_lt v w ≡ true → v <ℤ w
int_lt-true v w h = grind (arith, ints)

-- where the test of two whole numbers does not say less, the second one is at most the first
pub int_lt-false : (v w : ℤ) → int_lt v w ≡ false → w ≤ℤ v
int_lt-false v w h = grind (arith, ints)

le-lt : (u v w : ℤ) → u ≤ℤ v → v <ℤ w → u <ℤ w
le-lt u v w h k = omega (arith, ints)

-- a whole number below a second one is below whatever the second one is below
pub lt-lt : (u v w : ℤ) → u <ℤ v → v <ℤ w → u <ℤ w
lt-lt u v w h k = omega (arith, ints)

-- a whole number below another one is at most it
pub lt-le : (u v : ℤ) → u <ℤ v → u ≤ℤ v
lt-le u v h = omega (arith, ints)

-- a whole number is at most one that is the same
pub same-le : (u v : ℤ) → u ≡ v → u ≤ℤ v
same-le u v h = omega (arith, ints)

module _ (p : Parts) (cuts : List Cut) (ranges : List LoadRange) (choices : Choices) (numbers : List ℕ) (old : ℤ) (widest n : ℕ) (trial : List ℕ) (value : ℤ) (is_trial : IsTrial p cuts ranges choices numbers n trial) (is_value : IsRestrictedValue p cuts ranges choices trial value) where
  -- another value of the same trial is the same
  one : (i : ℕ) (other : List ℕ) (v : ℤ) → i ≡ n → IsTrial p cuts ranges choices numbers i other → IsRestrictedValue p cuts ranges choices other v → v ≡ value
  one i other v same t is =
      let here : IsTrial p cuts ranges choices numbers n other = subst (λ (j : ℕ). IsTrial p cuts ranges choices numbers j other) same t in
      value-unique p cuts ranges choices trial v value (subst (λ (xs : List ℕ). IsRestrictedValue p cuts ranges choices xs v) (trial-unique p cuts ranges choices numbers n other trial here is_trial) is) is_value

  -- what is so of the trials before is so of one more
  upto : (P : ℤ → Type 0) → ((i : ℕ) (other : List ℕ) (v : ℤ) → i < n → IsTrial p cuts ranges choices numbers i other → IsRestrictedValue p cuts ranges choices other v → P v) → P value
      → (i : ℕ) (other : List ℕ) (v : ℤ) → i < n + 1 → IsTrial p cuts ranges choices numbers i other → IsRestrictedValue p cuts ranges choices other v → P v
  upto P before here i other v below t is = elim (either_way n i) [
    | inl last ↦ subst P (sym (one i other v (omega arith) t is)) here
    | inr less ↦ before i other v less t is
  ]

  abbrev this : Best
  this = record { divisor = widest * 2 ^ n; value = value }

  -- this trial is the best, where its value is above what no trial before has more than
  this-best : (held : ℤ) → ((i : ℕ) (other : List ℕ) (v : ℤ) → i < n → IsTrial p cuts ranges choices numbers i other → IsRestrictedValue p cuts ranges choices other v → v ≤ℤ held) → held <ℤ value → old <ℤ value
      → IsBestOf p cuts ranges choices numbers old widest (n + 1) this
  this-best held before more greater = record {
    j = n;
    within = omega arith;
    divisor = refl;
    trial = trial;
    is_trial = is_trial;
    is_new = is_value;
    greater = greater;
    greatest = upto (λ v. v ≤ℤ value) (λ i other v below t is. lt-le v value (le-lt v held value (before i other v below t is) more)) (same-le value value refl);
    first = λ i other v below t is. le-lt v held value (before i other v below t is) more;
  }

  -- with one trial more, the best is the better of the best so far and this trial
  pub tried-next : (best : Option Best) → AreTried p cuts ranges choices numbers old widest n best → AreTried p cuts ranges choices numbers old widest (n + 1) (better_of old best this)
  tried-next None h = by (int_lt old value) refl
    where
      by : (b : Bool) → int_lt old value ≡ b → AreTried p cuts ranges choices numbers old widest (n + 1) (if b then Some this else None)
      by true more = this-best old h (int_lt-true old value more) (int_lt-true old value more)
      by false less = upto (λ v. v ≤ℤ old) h (int_lt-false old value less)
  tried-next (Some best) h = by (int_lt best.value value) refl
    where
      by : (b : Bool) → int_lt best.value value ≡ b → IsBestOf p cuts ranges choices numbers old widest (n + 1) (if b then this else best)
      by true more = (let above = int_lt-true best.value value more in this-best best.value h.greatest above (lt-lt old best.value value h.greater above))
      by false less = record {
        j = h.j;
        within = (let w = h.within in omega arith);
        divisor = h.divisor;
        trial = h.trial;
        is_trial = h.is_trial;
        is_new = h.is_new;
        greater = h.greater;
        greatest = upto (λ v. v ≤ℤ best.value) h.greatest (int_lt-false best.value value less);
        first = h.first;
      }

-- before the first trial
pub tried-none : (p : Parts) (cuts : List Cut) (ranges : List LoadRange) (choices : Choices) (numbers : List ℕ) (old : ℤ) (widest : ℕ) → AreTried p cuts ranges choices numbers old widest 0 None
tried-none p cuts ranges choices numbers old widest = λ i other v below t is. absurd (omega arith)

-- the best of all trials is a raise, with the prices of any list that is its trial
pub best-raise : (p : Parts) (cuts : List Cut) (ranges : List LoadRange) (choices : Choices) (numbers : List ℕ) (old : ℤ) (widest : ℕ) (best : Best) (trial : List ℕ) → IsRestrictedValue p cuts ranges choices numbers old → (h : IsBestOf p cuts ranges choices numbers old widest MAX_TRIALS best)
    → IsTrial p cuts ranges choices numbers h.j trial
    → IsRaise p cuts ranges choices numbers old trial best.value
best-raise p cuts ranges choices numbers old widest best trial is_old h is_trial = record {
  is_old = is_old;
  j = h.j;
  within = h.within;
  is_trial = is_trial;
  is_new = subst (λ (xs : List ℕ). IsRestrictedValue p cuts ranges choices xs best.value) (trial-unique p cuts ranges choices numbers h.j h.trial trial h.is_trial is_trial) h.is_new;
  greater = h.greater;
  greatest = h.greatest;
  first = h.first;
}
