-- The better of a step and an ascent.
use Rattle.std.proofs.Common.{◌≡◌, ℕ, ◌+◌, ◌-◌, ◌*◌, ◌/◌, ◌<◌, ◌≤◌, min, max, Bool, true, false, List, slice_index, refl, sym, subst, ◌∙◌, arith}
use Rattle.std.specs.Prelude.{ℤ, ◌<ℤ◌, int_lt, nat_lt, if◌then◌else◌}
use Rattle.plan_base.specs.declared.parts.Parts.{Parts}
use Rattle.plan_base.specs.Places.{places}
use Rattle.link_steps.specs.declared.range.LoadRange.{LoadRange}
use Rattle.proof_tree.specs.declared.cuts.Cut.{Cut}
use Rattle.cut_values.specs.Numbers.{AreNumbers, least_price_at, most_price_at, IsPriceWithin}
use Rattle.master_step.specs.declared.ascending.Ascent.{Ascent}
use Rattle.master_step.specs.declared.step.Step.TheVariants.{Raised, Same}
use Rattle.master_step.specs.Columns.{Choices}
use Rattle.master_step.specs.Trials.{apart, moved, IsTrial}
use Rattle.master_step.specs.Outcomes.{IsRaise, IsStalled}
use Rattle.master_step.specs.Restricted.{IsRestrictedValue}
use Rattle.master_step.specs.Ascents.{IsBestStepOf, raised_or, same_or}
use Rattle.cut_values.proofs.MovedPrices.{here-within, moved-numbers}
use Rattle.master_step.proofs.MovedNumbers.{moved-within}
use Rattle.master_step.proofs.Uniqueness.{raise-value, gain-not_stalled}
use Rattle.master_step.proofs.Trying.{int_lt-true, lt-lt, lt-le, same-le}

-- the numbers of a trial are as they have to be
pub trial-numbers : (p : Parts) (cuts : List Cut) (ranges : List LoadRange) (choices : Choices) (numbers : List ℕ) (j : ℕ) (trial : List ℕ) → AreNumbers p cuts numbers → IsTrial p cuts ranges choices numbers j trial → AreNumbers p cuts trial
trial-numbers p cuts ranges choices numbers j trial are h =
    moved-numbers p cuts numbers trial are (record {
      count = h.count ∙ sym are.count;
      prices = λ q below. subst (IsPriceWithin p cuts numbers q) (sym (h.each q below)) (moved-within p cuts numbers q _ _ _ _ (here-within p cuts numbers q are below));
      rates = h.rates;
    })

module _ (p : Parts) (cuts : List Cut) (ranges : List LoadRange) (choices : Choices) (numbers : List ℕ) (are : AreNumbers p cuts numbers) (ascent : Ascent) (fit : AreNumbers p cuts ascent.prices) (valued : IsRestrictedValue p cuts ranges choices ascent.prices ascent.new) where
  -- where the step raises the value, the better of the step and an ascent raises it at least as much
  pub raised-best : (old : ℤ) (trial : List ℕ) (new : ℤ) → IsRaise p cuts ranges choices numbers old trial new → IsBestStepOf p cuts ranges choices numbers (raised_or trial old new ascent)
  raised-best old trial new raise = by (int_lt new ascent.new) refl
    where
      one : (other : List ℕ) (value : ℤ) → IsRaise p cuts ranges choices numbers old other value → value ≡ new
      one other value is = raise-value p cuts ranges choices numbers old old other trial value new is raise

      by : (b : Bool) → int_lt new ascent.new ≡ b → IsBestStepOf p cuts ranges choices numbers (if b then Raised ascent.prices old ascent.new else Raised trial old new)
      by true more = record {
        are_numbers = fit;
        is_old = raise.is_old;
        is_new = valued;
        greater = lt-lt old new ascent.new raise.greater (int_lt-true new ascent.new more);
        not_worse = λ other value is. lt-le value ascent.new (subst (λ (x : ℤ). x <ℤ ascent.new) (sym (one other value is)) (int_lt-true new ascent.new more));
      }
      by false less = record {
        are_numbers = trial-numbers p cuts ranges choices numbers raise.j trial are raise.is_trial;
        is_old = raise.is_old;
        is_new = raise.is_new;
        greater = raise.greater;
        not_worse = λ other value is. same-le value new (one other value is);
      }

  -- where no trial has a greater value, an ascent of greater value is a rise, and else the numbers are stalled
  pub same-best : (value : ℤ) → IsStalled p cuts ranges choices numbers value → IsBestStepOf p cuts ranges choices numbers (same_or value ascent)
  same-best value stalled = by (int_lt value ascent.new) refl
    where
      by : (b : Bool) → int_lt value ascent.new ≡ b → IsBestStepOf p cuts ranges choices numbers (if b then Raised ascent.prices value ascent.new else Same value)
      by true more = record {
        are_numbers = fit;
        is_old = stalled.is_old;
        is_new = valued;
        greater = int_lt-true value ascent.new more;
        not_worse = λ other new is. absurd (gain-not_stalled p cuts ranges choices numbers value value new (record { trial = other; is_raise = is }) stalled);
      }
      by false less = stalled
