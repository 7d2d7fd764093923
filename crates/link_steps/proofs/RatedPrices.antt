-- What loads are worth at prices and rates within the limit is small, and so is a link value.
use Rattle.std.proofs.Common.{ℕ, ◌+◌, ◌*◌, ◌<◌, ◌≤◌, List, length, arith}
use Rattle.std.specs.Prelude.{ℤ, pos, ◌-ℤ◌, ◌≤ℤ◌}
use Rattle.std.proofs.lemmas.Int.{ints}
use Rattle.plan_base.specs.declared.parts.Parts.{Parts}
use Rattle.plan_base.specs.declared.limits.TheConstants.{MAX_PRICED_LOAD}
use Rattle.plan_base.specs.Arcs.{link_at}
use Rattle.plan_base.specs.Facts.{total_load, top_load, IsInstance}
use Rattle.link_steps.specs.declared.range.LoadRange.{LoadRange}
use Rattle.link_steps.specs.declared.range.LinkRanges.{LinkRanges}
use Rattle.link_steps.specs.declared.rated.Rated.{Rated}
use Rattle.link_steps.specs.declared.step.Step.{Step}
use Rattle.link_steps.specs.Candidates.{IsRatedPlace}
use Rattle.link_steps.specs.Steps.{AreAllSteps}
use Rattle.link_steps.specs.Tallies.{worth, rate_total, ArePlaceRates}
use Rattle.link_steps.specs.Values.{AreLinkRanges}
use Rattle.link_steps.specs.WorthValues.{IsWorthValue}
use Rattle.link_steps.proofs.Prices.{slope-within, routing-within, back-top, step_cost-small}
use Rattle.link_steps.proofs.RatedLoads.{worth-sum, worth-before-small}

-- the loads of a place in its range cost little by routing, and are worth little
pub IsRatedPlace-range : (p : Parts) (e price : ℕ) (rated : List Rated) (range : LoadRange) → IsInstance p → e < length p.links → ArePlaceRates p e price rated → range.least ≤ range.most → range.most ≤ top_load p (link_at p e)
    → IsRatedPlace (link_at p e) price rated range
IsRatedPlace-range p e price rated range lawful within rates some few = record {
  tallies = rates.tallies;
  covers = rates.covers;
  some = some;
  routing = routing-within p e range.most lawful within few;
  worth = slope-within p (link_at p e) (price + rate_total rated) (price + rate_total rated) range.most rates.limit (omega arith) few;
}

-- a load up to the top load is worth little
worth-small : (p : Parts) (e price : ℕ) (rated : List Rated) (load : ℕ) → ArePlaceRates p e price rated → load ≤ top_load p (link_at p e) → worth price rated load ≤ MAX_PRICED_LOAD
worth-small p e price rated load rates few =
    let full = slope-within p (link_at p e) (price + rate_total rated) (price + rate_total rated) load rates.limit (omega arith) few in
    omega (arith, worth-sum price rated load, worth-before-small price rated load (length rated) rates.tallies (omega arith), full)

module _ (p : Parts) (e : ℕ) (ranges : LinkRanges) (price : ℕ) (there : List Rated) (back_price : ℕ) (back : List Rated) (value : ℤ) (in_ranges : AreLinkRanges p e ranges) (is : IsWorthValue p e ranges price there back_price back value) where
  load-top : is.load ≤ top_load p (link_at p e)
  load-top = omega (arith, is.give.in_range.few, in_ranges.there.carried)

  other-top : is.back ≤ top_load p (link_at p e)
  other-top = omega (arith, is.give.back_in_range.few, in_ranges.other.carried, back-top p e)

  -- a link value is not far below 0
  pub IsWorthValue-bounded : ArePlaceRates p e price there → ArePlaceRates p e back_price back → (pos 0 -ℤ pos (2 * MAX_PRICED_LOAD)) ≤ℤ value
  IsWorthValue-bounded rates back_rates =
      rw (← is.give.attained) (above (1000 * is.give.cost) (worth price there is.load + worth back_price back is.back) (omega (arith, worth-small p e price there is.load rates load-top, worth-small p e back_price back is.back back_rates other-top)))
    where
      above : (cost priced : ℕ) → priced ≤ 2 * MAX_PRICED_LOAD → (pos 0 -ℤ pos (2 * MAX_PRICED_LOAD)) ≤ℤ (pos cost -ℤ pos priced)
      above cost priced le = omega (arith, ints)

  -- and not far above
  pub IsWorthValue-not_above : (steps : List Step) → IsInstance p → e < length p.links → AreAllSteps p.law (total_load p) (link_at p e) steps → value ≤ℤ pos MAX_PRICED_LOAD
  IsWorthValue-not_above steps lawful within are =
      rw (← is.give.attained) (below (1000 * is.give.cost) (worth price there is.load + worth back_price back is.back) (step_cost-small p e is.load is.back is.give.cost steps lawful within are load-top other-top is.give.is_cost))
    where
      below : (cost priced : ℕ) → cost ≤ MAX_PRICED_LOAD → (pos cost -ℤ pos priced) ≤ℤ pos MAX_PRICED_LOAD
      below cost priced le = omega (arith, ints)
