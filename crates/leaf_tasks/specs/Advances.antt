-- The prices that follow those of a brief.
use Rattle.std.specs.Prelude.{◌≡◌, ◌⊎◌, true, false, List, ℕ, Option, Some, None, ℤ}
use Rattle.plan_base.specs.declared.parts.Parts.{Parts}
use Rattle.proof_tree.specs.declared.cuts.Cut.{Cut}
use Rattle.column_pool.specs.declared.brief.Brief.{Brief}
use Rattle.column_pool.specs.Columns.{columns_at}
use Rattle.master_step.specs.Outcomes.{HasStalled, AreCrowdPrices}
use Rattle.master_step.specs.Ascents.{IsRiseOf}

-- the node has had too few versions, and the prices and rates have a greater restricted value than those of the brief
pub record IsRaised (p : Parts) (cuts : List Cut) (brief : Brief) (prices : List ℕ) : Type 0 where
  pub too_few : brief.has_enough ≡ false
  pub old : ℤ
  pub new : ℤ
  pub is_rise : IsRiseOf p cuts brief.ranges (columns_at brief.columns) brief.prices old prices new

-- the node has had too few versions, no master step gains, and the prices are the brief's crowd prices, which were not tried
pub record IsCrowded (p : Parts) (cuts : List Cut) (brief : Brief) (prices : List ℕ) : Type 0 where
  pub too_few : brief.has_enough ≡ false
  pub not_tried : brief.crowd_tried ≡ false
  pub stalled : HasStalled p cuts brief.ranges (columns_at brief.columns) brief.prices
  pub are_crowd : AreCrowdPrices p brief.prices prices

-- what follows: such prices, or none where the node has had enough versions or no master step gains
abbrev pub IsNext : Parts → List Cut → Brief → Option (List ℕ) → Type 0
IsNext p cuts brief None = (brief.has_enough ≡ true) ⊎ HasStalled p cuts brief.ranges (columns_at brief.columns) brief.prices
IsNext p cuts brief (Some prices) = IsRaised p cuts brief prices ⊎ IsCrowded p cuts brief prices
