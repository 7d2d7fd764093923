-- Numbers: prices of places, and behind them rates of cuts.
use Rattle.std.specs.Prelude.{ℕ, ◌≡◌, ◌<◌, ◌≤◌, ◌+◌, ◌-◌, ◌*◌, List, length, take, slice_index, nat_lt, if◌then◌else◌}
use Rattle.plan_base.specs.declared.parts.Parts.{Parts}
use Rattle.plan_base.specs.Facts.{price_limit}
use Rattle.plan_base.specs.Arcs.{link_at}
use Rattle.plan_base.specs.Places.{places, link_of_place}
use Rattle.link_steps.specs.Values.{AreStartPrices}
use Rattle.proof_tree.specs.declared.cuts.Cut.{Cut}
use Rattle.proof_tree.specs.RatedBounds.{crossing_rates}
use Rattle.proof_tree.specs.RatedEvidence.{rates_in, AreLawfulNumbers}

-- an instance with a list of cuts
pub record CutProblem : Type 0 where
  pub problem : Parts
  pub cuts : List Cut

-- one price for each place and one rate for each cut, as they have to be
pub record AreNumbers (p : Parts) (cuts : List Cut) (numbers : List ℕ) : Type 0 where
  pub count : length numbers ≡ places p + length cuts
  pub lawful : AreLawfulNumbers p cuts numbers

-- the rate of each cut is 0
abbrev pub HaveNoRates : Parts → List Cut → List ℕ → Type 0
HaveNoRates p cuts numbers = (i : ℕ) → i < length cuts → slice_index numbers (places p + i) ≡ 0

-- start prices, and rates of 0
pub record AreStartNumbers (p : Parts) (cuts : List Cut) (numbers : List ℕ) : Type 0 where
  pub count : length numbers ≡ places p + length cuts
  pub prices : AreStartPrices p (take (places p) numbers)
  pub rates : HaveNoRates p cuts numbers

-- the least that the price of a place may be beside these rates
abbrev pub least_price_at : Parts → List Cut → List ℕ → ℕ → ℕ
least_price_at p cuts numbers q = if nat_lt 0 (crossing_rates p cuts (rates_in p numbers) q) then 1000 * (link_at p (link_of_place p q)).routing else 0

-- the most that it may be
abbrev pub most_price_at : Parts → List Cut → List ℕ → ℕ → ℕ
most_price_at p cuts numbers q = price_limit p - crossing_rates p cuts (rates_in p numbers) q

-- a price is from the least to the most that it may be at this place beside these rates
pub record IsPriceWithin (p : Parts) (cuts : List Cut) (numbers : List ℕ) (q price : ℕ) : Type 0 where
  pub enough : least_price_at p cuts numbers q ≤ price
  pub few : price ≤ most_price_at p cuts numbers q

-- numbers with the rates of others, and prices that may be beside them
pub record AreMovedWithin (p : Parts) (cuts : List Cut) (old new : List ℕ) : Type 0 where
  pub count : length new ≡ length old
  pub prices : (q : ℕ) → q < places p → IsPriceWithin p cuts old q (slice_index new q)
  pub rates : (i : ℕ) → i < length cuts → slice_index new (places p + i) ≡ slice_index old (places p + i)
