-- What a master step finds.
use Rattle.std.specs.Prelude.{ℕ, ◌≡◌, ◌<◌, ◌≤◌, List, length, slice_index, ℤ, ◌≤ℤ◌, ◌<ℤ◌, if◌then◌else◌}
use Rattle.plan_base.specs.declared.parts.Parts.{Parts}
use Rattle.link_steps.specs.declared.range.LoadRange.{LoadRange}
use Rattle.plan_base.specs.Facts.{is_useful}
use Rattle.plan_base.specs.Arcs.{link_at}
use Rattle.plan_base.specs.Places.{places, link_of_place}
use Rattle.proof_tree.specs.declared.cuts.Cut.{Cut}
use Rattle.master_step.specs.declared.limits.TheConstants.{MAX_TRIALS}
use Rattle.master_step.specs.declared.step.Step.{Step}
use Rattle.master_step.specs.declared.step.Step.TheVariants.{Raised, Same, Bare}
use Rattle.master_step.specs.Columns.{Choices, IsFirstBare}
use Rattle.master_step.specs.Restricted.{IsRestrictedValue}
use Rattle.master_step.specs.Trials.{IsTrial}

-- of the trials the first one of greatest value, which is more than the value of the numbers; all in thousandths of a cost
-- grain
pub record IsRaise (p : Parts) (cuts : List Cut) (ranges : List LoadRange) (choices : Choices) (numbers : List ℕ) (old : ℤ) (trial : List ℕ) (new : ℤ) : Type 0 where
  pub is_old : IsRestrictedValue p cuts ranges choices numbers old
  pub j : ℕ
  pub within : j < MAX_TRIALS
  pub is_trial : IsTrial p cuts ranges choices numbers j trial
  pub is_new : IsRestrictedValue p cuts ranges choices trial new
  pub greater : old <ℤ new
  pub greatest : (i : ℕ) (other : List ℕ) (value : ℤ) → i < MAX_TRIALS → IsTrial p cuts ranges choices numbers i other → IsRestrictedValue p cuts ranges choices other value → value ≤ℤ new
  pub first : (i : ℕ) (other : List ℕ) (value : ℤ) → i < j → IsTrial p cuts ranges choices numbers i other → IsRestrictedValue p cuts ranges choices other value → value <ℤ new

-- the gain: the value that the step raises the value of the numbers to
pub record IsGain (p : Parts) (cuts : List Cut) (ranges : List LoadRange) (choices : Choices) (numbers : List ℕ) (old new : ℤ) : Type 0 where
  pub trial : List ℕ
  pub is_raise : IsRaise p cuts ranges choices numbers old trial new

-- it is the gain, whatever the value of the numbers is
abbrev pub HasGain : Parts → List Cut → List LoadRange → Choices → List ℕ → ℤ → Type 0
HasGain p cuts ranges choices numbers new = (old : ℤ) × IsGain p cuts ranges choices numbers old new

-- no trial has a greater value than the numbers
pub record IsStalled (p : Parts) (cuts : List Cut) (ranges : List LoadRange) (choices : Choices) (numbers : List ℕ) (old : ℤ) : Type 0 where
  pub is_old : IsRestrictedValue p cuts ranges choices numbers old
  pub none_greater : (j : ℕ) (trial : List ℕ) (value : ℤ) → j < MAX_TRIALS → IsTrial p cuts ranges choices numbers j trial → IsRestrictedValue p cuts ranges choices trial value → value ≤ℤ old

-- the numbers are stalled, whatever their value is
abbrev pub HasStalled : Parts → List Cut → List LoadRange → Choices → List ℕ → Type 0
HasStalled p cuts ranges choices numbers = (old : ℤ) × IsStalled p cuts ranges choices numbers old

-- what a step answers is so
abbrev pub IsStepOf : Parts → List Cut → List LoadRange → Choices → List ℕ → Step → Type 0
IsStepOf p cuts ranges choices numbers (Raised trial old new) = IsRaise p cuts ranges choices numbers old trial new
IsStepOf p cuts ranges choices numbers (Same value) = IsStalled p cuts ranges choices numbers value
IsStepOf p cuts ranges choices numbers (Bare demand) = IsFirstBare p choices demand.0

-- 0 for a place of a link with a useful module, and the price of another one
abbrev pub crowd_price : Parts → List ℕ → ℕ → ℕ
crowd_price p prices q = if is_useful (link_at p (link_of_place p q)) then 0 else slice_index prices q

-- the crowd price of each place, and rates of 0
pub record AreCrowdPrices (p : Parts) (old new : List ℕ) : Type 0 where
  pub count : length new ≡ length old
  pub each : (q : ℕ) → q < places p → slice_index new q ≡ crowd_price p old q
  pub rates : (i : ℕ) → places p ≤ i → slice_index new i ≡ 0
