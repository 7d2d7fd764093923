-- The restricted value of numbers.
use Rattle.std.specs.Prelude.{ℕ, ◌≡◌, ◌+◌, List, length, ℤ, pos, ◌+ℤ◌}
use Rattle.plan_base.specs.declared.parts.Parts.{Parts}
use Rattle.plan_base.specs.Sums.{int_sum_below}
use Rattle.link_steps.specs.declared.range.LoadRange.{LoadRange}
pub use Rattle.link_steps.specs.Ranges.{AreRanges}
use Rattle.proof_tree.specs.declared.cuts.Cut.{Cut}
use Rattle.proof_tree.specs.Bounds.{price_total}
use Rattle.proof_tree.specs.RatedBounds.{AreRatedValues, cut_total}
use Rattle.proof_tree.specs.RatedEvidence.{rates_in}
pub use Rattle.cut_values.specs.Numbers.{AreNumbers}
use Rattle.master_step.specs.Columns.{Choices, least_price, HasColumns}

-- the sum of loads times the prices of least columns over the demands, of rates times what their cuts count at least, and of
-- the links' values, in thousandths of a cost grain; only where each demand has a column
pub record IsRestrictedValue (p : Parts) (cuts : List Cut) (ranges : List LoadRange) (choices : Choices) (numbers : List ℕ) (value : ℤ) : Type 0 where
  pub has_columns : HasColumns p choices
  pub values : ℕ → ℤ
  pub are_values : AreRatedValues p cuts ranges numbers (rates_in p numbers) values
  pub is_sum : value ≡ (pos (price_total p (λ k. least_price p numbers (choices k)) + cut_total p cuts (rates_in p numbers)) +ℤ int_sum_below values (length p.links))
