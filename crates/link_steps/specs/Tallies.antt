-- Which grains of a load are counted, and what a load is worth where counted grains have rates.
use Rattle.std.specs.Prelude.{ℕ, ◌<◌, ◌≤◌, ◌+◌, ◌-◌, ◌*◌, ◌/◌, ◌%◌, min, List, length, slice_index_or}
use Rattle.std.specs.List.{sum_by}
use Rattle.plan_base.specs.declared.parts.Parts.{Parts}
use Rattle.plan_base.specs.Facts.{price_limit}
use Rattle.plan_base.specs.Arcs.{link_at}
use Rattle.link_steps.specs.declared.batch.Batch.{Batch}
use Rattle.link_steps.specs.declared.rated.Rated.{Rated}

-- the number of grains below x whose rest by the period is below the first ones
abbrev pub tally : ℕ → ℕ → ℕ → ℕ
tally period first x = first * (x / period) + min first (x % period)

-- some grains of each period are counted, and not more than all
pub record IsTally (period first : ℕ) : Type 0 where
  pub some : 1 ≤ first
  pub within : first ≤ period

-- how many grains of a load are counted: of what is past the load before, up to the rest
abbrev pub part : Batch → ℕ → ℕ
part b x = tally b.period b.first (min (x - b.before) b.rest)

-- what is read past the last rate
abbrev pub no_rated : Rated
no_rated = record { batch = record { period = 0; first = 0; before = 0; rest = 0 }; rate = 0 }

-- the rate at a place, with its batch
abbrev pub rated_at : List Rated → ℕ → Rated
rated_at rated i = slice_index_or rated i no_rated

-- what a load is worth: its price, and for each batch the rate of the grains that are counted, in thousandths of a cost grain
abbrev pub worth : ℕ → List Rated → ℕ → ℕ
worth price rated x = price * x + sum_by (λ r. r.rate * part r.batch x) rated

-- the rates together
abbrev pub rate_total : List Rated → ℕ
rate_total rated = sum_by (λ r. r.rate) rated

-- each batch counts some grains of each period, and not more than all
abbrev pub AreTallies : List Rated → Type 0
AreTallies rated = (i : ℕ) → i < length rated → IsTally (rated_at rated i).batch.period (rated_at rated i).batch.first

-- where a rate is above 0, the price is at least the routing cost
abbrev pub CoversRouting : ℕ → ℕ → List Rated → Type 0
CoversRouting routing price rated = (i : ℕ) → i < length rated → 0 < (rated_at rated i).rate → 1000 * routing ≤ price

-- the price and the rates that a place of the link of this number may have: together at most the price limit
pub record ArePlaceRates (p : Parts) (e price : ℕ) (rated : List Rated) : Type 0 where
  pub tallies : AreTallies rated
  pub limit : price + rate_total rated ≤ price_limit p
  pub covers : CoversRouting (link_at p e).routing price rated
