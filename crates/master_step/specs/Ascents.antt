-- What an ascent finds, and the better of a step and an ascent.
use Rattle.std.specs.Prelude.{ℕ, ◌≡◌, List, length, ℤ, ◌≤ℤ◌, ◌<ℤ◌, int_lt, if◌then◌else◌}
use Rattle.plan_base.specs.declared.parts.Parts.{Parts}
use Rattle.link_steps.specs.declared.range.LoadRange.{LoadRange}
use Rattle.plan_base.specs.Places.{places}
use Rattle.proof_tree.specs.declared.cuts.Cut.{Cut}
use Rattle.cut_values.specs.Numbers.{AreNumbers}
use Rattle.master_step.specs.declared.ascending.Ascent.{Ascent}
use Rattle.master_step.specs.declared.means.Averages.{Averages}
use Rattle.master_step.specs.declared.step.Step.{Step}
use Rattle.master_step.specs.declared.step.Step.TheVariants.{Raised, Same, Bare}
use Rattle.master_step.specs.Columns.{Choices, IsFirstBare}
use Rattle.master_step.specs.Restricted.{IsRestrictedValue}
use Rattle.master_step.specs.Outcomes.{IsRaise, IsStalled}

-- a load for each place, and a cost for each link
pub record HaveSizes (p : Parts) (averages : Averages) : Type 0 where
  pub loads : length averages.loads ≡ places p
  pub costs : length averages.costs ≡ length p.links

-- numbers whose restricted value is at least that of the old ones
pub record IsAscent (p : Parts) (cuts : List Cut) (ranges : List LoadRange) (choices : Choices) (numbers : List ℕ) (ascent : Ascent) : Type 0 where
  pub are_numbers : AreNumbers p cuts ascent.prices
  pub is_old : IsRestrictedValue p cuts ranges choices numbers ascent.old
  pub is_new : IsRestrictedValue p cuts ranges choices ascent.prices ascent.new
  pub not_less : ascent.old ≤ℤ ascent.new

-- numbers whose restricted value is more than that of the old ones, and at least what the master step raises it to
pub record IsRiseOf (p : Parts) (cuts : List Cut) (ranges : List LoadRange) (choices : Choices) (numbers : List ℕ) (old : ℤ) (raised : List ℕ) (new : ℤ) : Type 0 where
  pub are_numbers : AreNumbers p cuts raised
  pub is_old : IsRestrictedValue p cuts ranges choices numbers old
  pub is_new : IsRestrictedValue p cuts ranges choices raised new
  pub greater : old <ℤ new
  pub not_worse : (trial : List ℕ) (value : ℤ) → IsRaise p cuts ranges choices numbers old trial value → value ≤ℤ new

-- what the better of a step and an ascent answers is so
abbrev pub IsBestStepOf : Parts → List Cut → List LoadRange → Choices → List ℕ → Step → Type 0
IsBestStepOf p cuts ranges choices numbers (Raised raised old new) = IsRiseOf p cuts ranges choices numbers old raised new
IsBestStepOf p cuts ranges choices numbers (Same value) = IsStalled p cuts ranges choices numbers value
IsBestStepOf p cuts ranges choices numbers (Bare demand) = IsFirstBare p choices demand.0

-- the raise, or the ascent where it has a greater value
abbrev pub raised_or : List ℕ → ℤ → ℤ → Ascent → Step
raised_or raised old new ascent = if int_lt new ascent.new then Raised ascent.prices old ascent.new else Raised raised old new

-- the ascent where it has a greater value, and else that nothing has
abbrev pub same_or : ℤ → Ascent → Step
same_or value ascent = if int_lt value ascent.new then Raised ascent.prices value ascent.new else Same value
