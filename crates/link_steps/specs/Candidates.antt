-- Among which loads the least value of a link is looked for. No public contract cites it.
use Rattle.std.specs.Prelude.{ℕ, ◌≡◌, ◌<◌, ◌≤◌, ◌+◌, ◌*◌, min, max, List, length, ◌≤ℤ◌, ◌<ℤ◌, if◌then◌else◌, nat_lt}
use Rattle.plan_base.specs.declared.parts.Link.{Link}
use Rattle.plan_base.specs.declared.parts.Parts.{Parts}
use Rattle.plan_base.specs.Arcs.{link_at}
use Rattle.plan_base.specs.Facts.{top_load}
use Rattle.plan_base.specs.declared.limits.TheConstants.{MAX_ROUTING_COST, MAX_PRICED_LOAD, MODULE_COST_BOUND}
use Rattle.link_steps.specs.declared.limits.TheConstants.{MAX_STEPS}
use Rattle.link_steps.specs.declared.range.LoadRange.{LoadRange}
use Rattle.link_steps.specs.declared.range.LinkRanges.{LinkRanges}
use Rattle.link_steps.specs.declared.reading.LinkValue.{LinkValue}
use Rattle.link_steps.specs.declared.step.Step.{Step}
use Rattle.link_steps.specs.declared.batch.Batch.{Batch}
use Rattle.link_steps.specs.declared.rated.Rated.{Rated}
use Rattle.link_steps.specs.Ranges.{IsIn}
use Rattle.link_steps.specs.Tallies.{part, rated_at, rate_total, AreTallies, CoversRouting}
use Rattle.link_steps.specs.Values.{top_back, value_at}
use Rattle.link_steps.specs.WorthValues.{net_value}
use Rattle.link_steps.specs.Steps.{step_at}

-- all loads up to this one
abbrev pub full_range : ℕ → LoadRange
full_range top = record { least = 0; most = top }

-- all loads of the places of the link of this number
abbrev pub whole_link : Parts → ℕ → LinkRanges
whole_link p e = record { there = full_range (top_load p (link_at p e)); back = full_range (top_back p e) }

-- the best load of a place up to a reach: as much as may be where its price is above the routing costs, else as little
abbrev pub load_up_to : Link → ℕ → LoadRange → ℕ → ℕ
load_up_to l price range reach = if nat_lt (1000 * l.routing) price then min reach range.most else range.least

-- what a link has at the best loads up to the reach of a step, where it has the cost of this step
abbrev pub candidate : Link → LinkRanges → ℕ → ℕ → Step → LinkValue
candidate l ranges price back_price step =
    let load = load_up_to l price ranges.there step.reach in
    let back = load_up_to l back_price ranges.back step.reach in
    record { value = value_at price back_price load back (l.routing * (load + back) + step.cost); load = load; back = back }

-- the first of the least candidates from one step to below another
pub record IsFirstBest (l : Link) (ranges : LinkRanges) (price back_price : ℕ) (steps : List Step) (from to : ℕ) (best : LinkValue) : Type 0 where
  pub place : ℕ
  pub enough : from ≤ place
  pub below : place < to
  pub is : best ≡ candidate l ranges price back_price (step_at steps place)
  pub least : (i : ℕ) → from ≤ i → i < to → best.value ≤ℤ (candidate l ranges price back_price (step_at steps i)).value
  pub first : (i : ℕ) → from ≤ i → i < place → best.value <ℤ (candidate l ranges price back_price (step_at steps i)).value

-- loads in the range cost little by routing and by their price
pub record IsSmall (l : Link) (price : ℕ) (range : LoadRange) : Type 0 where
  pub some : range.least ≤ range.most
  pub routing : l.routing * range.most ≤ MAX_ROUTING_COST
  pub priced : price * range.most ≤ MAX_PRICED_LOAD

-- so do the loads in the ranges of a link's places
pub record AreSmall (l : Link) (ranges : LinkRanges) (price back_price : ℕ) : Type 0 where
  pub there : IsSmall l price ranges.there
  pub other : IsSmall l back_price ranges.back

-- each step costs little
abbrev pub AreCheap : List Step → Type 0
AreCheap steps = (i : ℕ) → i < length steps → (step_at steps i).cost ≤ MAX_STEPS * MODULE_COST_BOUND

-- of the loads in the range up to a reach, one that no other is better than, and no smaller one as good as
pub record IsBestLoad (routing : ℕ) (worth : ℕ → ℕ) (range : LoadRange) (reach best : ℕ) : Type 0 where
  pub in_range : IsIn range best
  pub reached : best ≤ reach
  pub no_more : (x : ℕ) → IsIn range x → x ≤ reach → routing * best + worth x ≤ routing * x + worth best
  pub less : (x : ℕ) → IsIn range x → x ≤ reach → x < best → routing * best + worth x < routing * x + worth best

-- what a link has at the best loads up to the reach of a step, where it has the cost of this step
pub record IsBestUpTo (l : Link) (ranges : LinkRanges) (there_worth back_worth : ℕ → ℕ) (step : Step) (found : LinkValue) : Type 0 where
  pub there : IsBestLoad (1000 * l.routing) there_worth ranges.there step.reach found.load
  pub other : IsBestLoad (1000 * l.routing) back_worth ranges.back step.reach found.back
  pub value : found.value ≡ net_value there_worth back_worth found.load found.back (l.routing * (found.load + found.back) + step.cost)

-- loads of a link's places in their ranges, both up to a reach
pub record AreReached (ranges : LinkRanges) (reach load back : ℕ) : Type 0 where
  pub in_range : IsIn ranges.there load
  pub back_in_range : IsIn ranges.back back
  pub reached : max load back ≤ reach

-- what is best up to a step from one to below another, where no loads give less at a step that reaches them, and before it none as little
pub record IsFirstLeast (l : Link) (ranges : LinkRanges) (there_worth back_worth : ℕ → ℕ) (steps : List Step) (from to : ℕ) (best : LinkValue) : Type 0 where
  pub place : ℕ
  pub enough : from ≤ place
  pub below : place < to
  pub is : IsBestUpTo l ranges there_worth back_worth (step_at steps place) best
  pub least : (i x y : ℕ) → from ≤ i → i < to → AreReached ranges (step_at steps i).reach x y → best.value ≤ℤ net_value there_worth back_worth x y (l.routing * (x + y) + (step_at steps i).cost)
  pub first : (i x y : ℕ) → from ≤ i → i < place → AreReached ranges (step_at steps i).reach x y → best.value <ℤ net_value there_worth back_worth x y (l.routing * (x + y) + (step_at steps i).cost)

-- the least load of which as many grains are counted
pub record IsLeastCounted (b : Batch) (load least : ℕ) : Type 0 where
  pub within : least ≤ load
  pub same : part b least ≡ part b load
  pub less : (x : ℕ) → x < least → part b x < part b load

-- one of the first rates is above 0, and counts fewer grains of a load than of another
pub record CountFewer (rated : List Rated) (count load most : ℕ) : Type 0 where
  pub place : ℕ
  pub within : place < count
  pub positive : 0 < (rated_at rated place).rate
  pub fewer : part (rated_at rated place).batch load < part (rated_at rated place).batch most

-- of the loads from one to another the least of which the first rates above 0 count as many grains as of the greatest
pub record IsCountedLoad (rated : List Rated) (least most count load : ℕ) : Type 0 where
  pub enough : least ≤ load
  pub few : load ≤ most
  pub same : (i : ℕ) → i < count → 0 < (rated_at rated i).rate → part (rated_at rated i).batch most ≤ part (rated_at rated i).batch load
  pub less : (x : ℕ) → least ≤ x → x < load → CountFewer rated count x most

-- loads in the range cost little by routing, and are worth little at a price that covers it where there are rates
pub record IsRatedPlace (l : Link) (price : ℕ) (rated : List Rated) (range : LoadRange) : Type 0 where
  pub tallies : AreTallies rated
  pub covers : CoversRouting l.routing price rated
  pub some : range.least ≤ range.most
  pub routing : l.routing * range.most ≤ MAX_ROUTING_COST
  pub worth : (price + rate_total rated) * range.most ≤ MAX_PRICED_LOAD
