-- Pieces of the search among the trials, and of the ascent. No public clause cites this module.
use Rattle.std.specs.Prelude.{ℕ, ◌≡◌, ◌<◌, ◌≤◌, ◌+◌, ◌*◌, ◌^◌, false, List, length, slice_index, Option, Some, None, ℤ, ◌≤ℤ◌, ◌<ℤ◌, if◌then◌else◌, int_lt}
use Rattle.plan_base.specs.declared.parts.Parts.{Parts}
use Rattle.plan_base.specs.declared.limits.TheConstants.{MAX_PLACES}
use Rattle.plan_base.specs.Facts.{total_load, price_limit}
use Rattle.plan_base.specs.Places.{is_two_way, places}
use Rattle.link_steps.specs.declared.range.LoadRange.{LoadRange}
use Rattle.link_steps.specs.Ranges.{AreRanges}
use Rattle.link_steps.specs.Values.{AreLinkRanges}
use Rattle.master_step.specs.declared.rows.Rows.{Rows}
use Rattle.master_step.specs.declared.climbing.Best.{Best}
use Rattle.master_step.specs.declared.climbing.Master.{Master}
use Rattle.master_step.specs.declared.ascending.Turn.{Turn}
use Rattle.proof_tree.specs.declared.cuts.Cut.{Cut}
use Rattle.cut_values.specs.Numbers.{AreNumbers, least_price_at, most_price_at}
use Rattle.master_step.specs.Columns.{Choices, HasColumns}
use Rattle.master_step.specs.Choosing.{allowed_of, IsSource}
use Rattle.master_step.specs.Restricted.{IsRestrictedValue}
use Rattle.master_step.specs.Trials.{column_load, AreValueLoads, moved, IsTrial}

-- rows with room for each place, and for so many numbers of a trial
pub record HasRoom (count : ℕ) (rows : Rows) : Type 0 where
  pub columns : length rows.column_loads.items ≡ MAX_PLACES
  pub values : length rows.value_loads.items ≡ MAX_PLACES
  pub trial : length rows.trial ≡ count

-- no load of the rows is above the total load
pub record AreLow (p : Parts) (rows : Rows) : Type 0 where
  pub columns : (q : ℕ) → q < places p → slice_index rows.column_loads.items q ≤ total_load p
  pub values : (q : ℕ) → q < places p → slice_index rows.value_loads.items q ≤ total_load p

-- the rows hold the loads of the columns and of the values
pub record HasLoads (p : Parts) (cuts : List Cut) (ranges : List LoadRange) (choices : Choices) (numbers : List ℕ) (rows : Rows) : Type 0 where
  pub columns : (q : ℕ) → q < places p → slice_index rows.column_loads.items q ≡ column_load p choices numbers q
  pub values : AreValueLoads p cuts ranges numbers (slice_index rows.value_loads.items)

-- numbers as they have to be: the price of each place moved by the loads of the rows, and the rates as they were
pub record AreMoved (p : Parts) (cuts : List Cut) (numbers : List ℕ) (greatest divisor : ℕ) (rows : Rows) (trial : List ℕ) : Type 0 where
  pub are_numbers : AreNumbers p cuts trial
  pub each : (q : ℕ) → q < places p → slice_index trial q
      ≡ moved (least_price_at p cuts numbers q) (most_price_at p cuts numbers q) greatest divisor (slice_index rows.column_loads.items q) (slice_index rows.value_loads.items q) (slice_index numbers q)
  pub rates : (i : ℕ) → i < length cuts → slice_index trial (places p + i) ≡ slice_index numbers (places p + i)

-- the parts of a step belong together, and each demand has a column
pub record IsMaster (m : Master) : Type 0 where
  pub table : m.table.now.problem ≡ m.inst.now
  pub are_numbers : AreNumbers m.inst.now m.table.now.cuts m.prices.now
  pub are_ranges : AreRanges m.inst.now m.ranges.now
  pub source : IsSource m.inst.now m.source
  pub columns : HasColumns m.inst.now (allowed_of m.source)

-- of two, the trial where its value is above the best so far, and above the old one where there is none
abbrev pub better_of : ℤ → Option Best → Best → Option Best
better_of old None trial = if int_lt old trial.value then Some trial else None
better_of old (Some best) trial = Some (if int_lt best.value trial.value then trial else best)

-- of the trials before a number the first one of greatest value, which is more than the old one
pub record IsBestOf (p : Parts) (cuts : List Cut) (ranges : List LoadRange) (choices : Choices) (numbers : List ℕ) (old : ℤ) (widest count : ℕ) (best : Best) : Type 0 where
  pub j : ℕ
  pub within : j < count
  pub divisor : best.divisor ≡ widest * 2 ^ j
  pub trial : List ℕ
  pub is_trial : IsTrial p cuts ranges choices numbers j trial
  pub is_new : IsRestrictedValue p cuts ranges choices trial best.value
  pub greater : old <ℤ best.value
  pub greatest : (i : ℕ) (other : List ℕ) (value : ℤ) → i < count → IsTrial p cuts ranges choices numbers i other → IsRestrictedValue p cuts ranges choices other value → value ≤ℤ best.value
  pub first : (i : ℕ) (other : List ℕ) (value : ℤ) → i < j → IsTrial p cuts ranges choices numbers i other → IsRestrictedValue p cuts ranges choices other value → value <ℤ best.value

-- the best of the trials before a number, or that none is better than the old value
abbrev pub AreTried : Parts → List Cut → List LoadRange → Choices → List ℕ → ℤ → ℕ → ℕ → Option Best → Type 0
AreTried p cuts ranges choices numbers old widest count None = (i : ℕ) (other : List ℕ) (value : ℤ) → i < count → IsTrial p cuts ranges choices numbers i other → IsRestrictedValue p cuts ranges choices other value → value ≤ℤ old
AreTried p cuts ranges choices numbers old widest count (Some best) = IsBestOf p cuts ranges choices numbers old widest count best

-- a link of the instance, the ranges of its places, and a price of its other place within the limit, 0 where it has no
-- other place; it has none where its one place is moved; prices are looked for within the limit
pub record IsTurn (p : Parts) (turn : Turn) : Type 0 where
  pub link : turn.link.0 < length p.links
  pub ranges : AreLinkRanges p turn.link.0 turn.ranges
  pub other : turn.other ≤ price_limit p
  pub one_way : is_two_way p.orient ≡ false → turn.other ≡ 0
  pub one_place : is_two_way p.orient ≡ false → turn.is_back ≡ false
  pub order : turn.bounds.least ≤ turn.bounds.most
  pub within : turn.bounds.most ≤ price_limit p
