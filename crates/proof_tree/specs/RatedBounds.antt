-- The bound that prices of places and rates of cuts give to a region.
use Rattle.std.specs.Prelude.{ℕ, zero, suc, ◌<◌, ◌≤◌, ◌+◌, ◌*◌, List, [], ◌∷◌, ◌++◌, length, slice_index, if◌then◌else◌, Bool, ℤ, pos, ◌+ℤ◌, ◌≡◌, ◌≤ℤ◌, ◌-ℤ◌}
use Rattle.plan_base.specs.declared.parts.Parts.{Parts}
use Rattle.plan_base.specs.declared.limits.TheConstants.{MAX_PRICED_LOAD}
use Rattle.plan_base.specs.Facts.{price_limit}
use Rattle.plan_base.specs.Sums.{sum_below, int_sum_below}
use Rattle.plan_base.specs.Arcs.{link_at}
use Rattle.plan_base.specs.Places.{is_two_way, places, link_of_place, there_of, back_of}
use Rattle.link_steps.specs.declared.rated.Rated.{Rated}
use Rattle.link_steps.specs.declared.range.LoadRange.{LoadRange}
use Rattle.link_steps.specs.Ranges.{AreRanges}
use Rattle.link_steps.specs.Tallies.{rate_total}
use Rattle.link_steps.specs.Values.{ranges_of_link}
use Rattle.link_steps.specs.WorthValues.{IsWorthValue}
use Rattle.arc_restrict.specs.Prices.{AreWithinLimit}
use Rattle.proof_tree.specs.declared.cuts.Cut.{Cut}
use Rattle.proof_tree.specs.Cuts.{place_crosses, batch_of, least_count, cut_at, AreCuts, AreRests}
use Rattle.proof_tree.specs.Regions.{Region}
use Rattle.proof_tree.specs.Bounds.{IsThousandthUp, AreLeastPrices, price_total}

-- the list, with one more at its end where there is one
abbrev pub with_rated : Bool → List Rated → Rated → List Rated
with_rated crosses list rated = if crosses then list ++ (rated ∷ []) else list

-- the cuts before a count that the place crosses, as it sees them, each with its rate
abbrev pub rated_before : Parts → List Cut → List ℕ → ℕ → ℕ → List Rated
rated_before p cuts rates q zero = []
rated_before p cuts rates q (suc n) = with_rated (place_crosses p (cut_at cuts n).nodes q) (rated_before p cuts rates q n) (record { batch = batch_of p (cut_at cuts n) q; rate = slice_index rates n })

-- the cuts that the place crosses, each with its rate
abbrev pub rated_on : Parts → List Cut → List ℕ → ℕ → List Rated
rated_on p cuts rates q = rated_before p cuts rates q (length cuts)

-- those of a link's place that its arc from source to target is of
abbrev pub rated_there : Parts → List Cut → List ℕ → ℕ → List Rated
rated_there p cuts rates e = rated_on p cuts rates (if is_two_way p.orient then 2 * e else e)

-- those of the place that its arc back is of, where that is another place, and else none
abbrev pub rated_back : Parts → List Cut → List ℕ → ℕ → List Rated
rated_back p cuts rates e = if is_two_way p.orient then rated_on p cuts rates (2 * e + 1) else []

-- the rates of the cuts that the place crosses
abbrev pub crossing_rates : Parts → List Cut → List ℕ → ℕ → ℕ
crossing_rates p cuts rates q = rate_total (rated_on p cuts rates q)

-- a place's price with the rates of the cuts that it crosses is at most the limit; where one of these rates is above 0, the
-- price is at least a thousand routing costs
pub record IsRatedPrice (p : Parts) (cuts : List Cut) (price : ℕ) (rates : List ℕ) (q : ℕ) : Type 0 where
  pub within_limit : price + crossing_rates p cuts rates q ≤ price_limit p
  pub cover_routing : 0 < crossing_rates p cuts rates q → 1000 * (link_at p (link_of_place p q)).routing ≤ price

-- no price and no rate is above the limit, and each place may have its price with these rates
pub record AreRatedPrices (p : Parts) (cuts : List Cut) (prices rates : List ℕ) : Type 0 where
  pub prices_within : AreWithinLimit p prices
  pub rates_within : AreWithinLimit p rates
  pub each : (q : ℕ) → q < places p → IsRatedPrice p cuts (slice_index prices q) rates q

-- ranges, cuts with what crosses them beyond what they leave out, prices and rates fit the instance
pub record FitRated (p : Parts) (ranges : List LoadRange) (cuts : List Cut) (rests prices rates : List ℕ) : Type 0 where
  pub are_ranges : AreRanges p ranges
  pub are_cuts : AreCuts p cuts
  pub are_rests : AreRests p cuts rests
  pub are_rated : AreRatedPrices p cuts prices rates
  pub price_count : places p ≤ length prices
  pub rate_count : length rates ≡ length cuts

-- the value of a link, at one range and one price for each place and one rate for each cut
abbrev pub IsRatedValue : Parts → List Cut → List LoadRange → List ℕ → List ℕ → ℕ → ℤ → Type 0
IsRatedValue p cuts ranges prices rates e value = IsWorthValue p e (ranges_of_link p ranges e) (there_of p (slice_index prices) e) (rated_there p cuts rates e) (back_of p (slice_index prices) e) (rated_back p cuts rates e) value

-- the values of all links
abbrev pub AreRatedValues : Parts → List Cut → List LoadRange → List ℕ → List ℕ → (ℕ → ℤ) → Type 0
AreRatedValues p cuts ranges prices rates values = (e : ℕ) → e < length p.links → IsRatedValue p cuts ranges prices rates e (values e)

-- the values of the links before a count have this sum, which is neither far above 0 nor far below
pub record IsRatedTotal (p : Parts) (cuts : List Cut) (ranges : List LoadRange) (prices rates : List ℕ) (count : ℕ) (total : ℤ) : Type 0 where
  pub values : ℕ → ℤ
  pub are_values : (e : ℕ) → e < count → IsRatedValue p cuts ranges prices rates e (values e)
  pub is_sum : int_sum_below values count ≡ total
  pub not_above : total ≤ℤ pos (count * MAX_PRICED_LOAD)
  pub bounded : (pos 0 -ℤ pos (count * (2 * MAX_PRICED_LOAD))) ≤ℤ total

-- the rates times what the cuts count at least, in thousandths of a cost grain
abbrev pub cut_total : Parts → List Cut → List ℕ → ℕ
cut_total p cuts rates = sum_below (λ i. slice_index rates i * least_count p (cut_at cuts i)) (length cuts)

-- loads times least prices of the demands, rates times what the cuts count at least, and the values of the links, together
-- over 1,000, rounded up, in cost grains
pub record IsRatedBound (p : Parts) (cuts : List Cut) (g : Region) (prices rates : List ℕ) (bound : ℤ) : Type 0 where
  pub least_prices : ℕ → ℕ
  pub values : ℕ → ℤ
  pub are_least : AreLeastPrices p g.forbidden prices least_prices
  pub are_values : AreRatedValues p cuts g.ranges prices rates values
  pub rounded : IsThousandthUp (pos (price_total p least_prices + cut_total p cuts rates) +ℤ int_sum_below values (length p.links)) bound
