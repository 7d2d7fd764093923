-- Moved prices make a trial.
use Rattle.std.proofs.Math.Nat.{mul-le-mul, pow-le-pow_right, one-le-pow}
use Rattle.std.proofs.Common.{Vec, Global, add-one, pow-suc, ◌≡◌, ℕ, ◌+◌, ◌*◌, ◌^◌, ◌<◌, ◌≤◌, List, length, slice_index, sym, ap, subst, ◌∙◌, arith}
use Rattle.plan_base.specs.declared.parts.Parts.{Parts}
use Rattle.plan_base.specs.Facts.{total_load}
use Rattle.plan_base.specs.Places.{places}
use Rattle.plan_base.specs.declared.limits.TheConstants.{MAX_PLACES, MAX_TOTAL_LOAD}
use Rattle.link_steps.specs.declared.range.LoadRange.{LoadRange}
use Rattle.proof_tree.specs.declared.cuts.Cut.{Cut}
use Rattle.cut_values.specs.Numbers.{least_price_at, most_price_at}
use Rattle.master_step.specs.declared.rows.Rows.{Rows}
use Rattle.master_step.specs.Columns.{Choices}
use Rattle.master_step.specs.Trials.{column_load, AreValueLoads, apart, widest_gap, greatest_price, moved, IsTrial}
use Rattle.master_step.specs.Climbing.{HasLoads, HasRoom, AreLow, AreMoved}
use Rattle.master_step.proofs.Uniqueness.{max_below-same, place-unique}

module _ (p : Parts) (cuts : List Cut) (ranges : List LoadRange) (choices : Choices) (numbers : List ℕ) (rows : Rows) (loads : HasLoads p cuts ranges choices numbers rows) where
  -- the widest gap of the rows
  pub widest-rows : widest_gap p (slice_index rows.column_loads.items) (slice_index rows.value_loads.items) ≡ widest_gap p (column_load p choices numbers) (slice_index rows.value_loads.items)
  widest-rows =
      max_below-same (λ q. apart (slice_index rows.column_loads.items q) (slice_index rows.value_loads.items q)) (λ q. apart (column_load p choices numbers q) (slice_index rows.value_loads.items q)) (places p)
      (λ q below. ap (λ (x : ℕ). apart x (slice_index rows.value_loads.items q)) (loads.columns q below))

  -- prices moved by the loads of the rows, with the widest gap times a power of 2 as divisor, make the trial of that power
  pub moved-trial : (greatest widest divisor j : ℕ) (trial : List ℕ) → greatest ≡ greatest_price p numbers → widest ≡ widest_gap p (slice_index rows.column_loads.items) (slice_index rows.value_loads.items) → 0 < widest → divisor ≡ widest * 2 ^ j
      → AreMoved p cuts numbers greatest divisor rows trial → IsTrial p cuts ranges choices numbers j trial
  moved-trial greatest widest divisor j trial is_greatest is_widest some is_divisor h =
      let wide : widest ≡ widest_gap p (column_load p choices numbers) (slice_index rows.value_loads.items) = is_widest ∙ widest-rows in
      record {
        loads = slice_index rows.value_loads.items;
        are_loads = loads.values;
        some_gap = subst (λ (x : ℕ). 0 < x) wide some;
        count = h.are_numbers.count;
        each = λ q below.
            h.each q below
            ∙ ap (λ (x : ℕ). moved (least_price_at p cuts numbers q) (most_price_at p cuts numbers q) x divisor (slice_index rows.column_loads.items q) (slice_index rows.value_loads.items q) (slice_index numbers q)) is_greatest
            ∙ ap (λ (x : ℕ). moved (least_price_at p cuts numbers q) (most_price_at p cuts numbers q) (greatest_price p numbers) x (slice_index rows.column_loads.items q) (slice_index rows.value_loads.items q) (slice_index numbers q)) (is_divisor ∙ ap (λ (x : ℕ). x * 2 ^ j) wide)
            ∙ ap (λ (x : ℕ). moved (least_price_at p cuts numbers q) (most_price_at p cuts numbers q) (greatest_price p numbers) (widest_gap p (column_load p choices numbers) (slice_index rows.value_loads.items) * 2 ^ j) x (slice_index rows.value_loads.items q) (slice_index numbers q))
            (loads.columns q below);
        rates = h.rates;
      }

  -- where there is no gap, there is no trial
  pub no_gap-no_trial : (j : ℕ) (trial : List ℕ) → widest_gap p (slice_index rows.column_loads.items) (slice_index rows.value_loads.items) ≡ 0 → IsTrial p cuts ranges choices numbers j trial → ⊥
  no_gap-no_trial j trial none h =
      let same : widest_gap p (column_load p choices numbers) h.loads ≡ widest_gap p (column_load p choices numbers) (slice_index rows.value_loads.items) =
      max_below-same (λ q. apart (column_load p choices numbers q) (h.loads q)) (λ q. apart (column_load p choices numbers q) (slice_index rows.value_loads.items q)) (places p)
      (λ q below. ap (λ (x : ℕ). apart (column_load p choices numbers q) x) (place-unique p cuts ranges numbers h.loads (slice_index rows.value_loads.items) h.are_loads loads.values q below)) in
      absurd (let wide : 0 < 0 = subst (λ (x : ℕ). 0 < x) (same ∙ sym widest-rows ∙ none) h.some_gap in omega arith)

-- rows with the same loads
pub loads-same : (p : Parts) (cuts : List Cut) (ranges : List LoadRange) (choices : Choices) (numbers : List ℕ) (rows other : Rows) → other.column_loads ≡ rows.column_loads → other.value_loads ≡ rows.value_loads → HasLoads p cuts ranges choices numbers rows
    → HasLoads p cuts ranges choices numbers other
loads-same p cuts ranges choices numbers rows other columns values h = record {
  columns = subst (λ (v : Vec ℕ Global). (q : ℕ) → q < places p → slice_index v.items q ≡ column_load p choices numbers q) (sym columns) h.columns;
  values = subst (λ (v : Vec ℕ Global). AreValueLoads p cuts ranges numbers (slice_index v.items)) (sym values) h.values;
}

-- rows with the same loads as rows of which no load is above the total load have none above it either
pub low-same : (p : Parts) (rows other : Rows) → other.column_loads ≡ rows.column_loads → other.value_loads ≡ rows.value_loads → AreLow p rows → AreLow p other
low-same p rows other columns values h = record {
  columns = subst (λ (v : Vec ℕ Global). (q : ℕ) → q < places p → slice_index v.items q ≤ total_load p) (sym columns) h.columns;
  values = subst (λ (v : Vec ℕ Global). (q : ℕ) → q < places p → slice_index v.items q ≤ total_load p) (sym values) h.values;
}

-- rows with the same loads, and so many numbers of a trial, have room where the other rows have
pub room-same : (count : ℕ) (rows other : Rows) → other.column_loads ≡ rows.column_loads → other.value_loads ≡ rows.value_loads → length other.trial ≡ count → HasRoom count rows → HasRoom count other
room-same count rows other columns values trial h = record {
  columns = subst (λ (v : Vec ℕ Global). length v.items ≡ MAX_PLACES) (sym columns) h.columns;
  values = subst (λ (v : Vec ℕ Global). length v.items ≡ MAX_PLACES) (sym values) h.values;
  trial = trial;
}

-- a widest gap of so many load grains, doubled as often as there are trials, is small
pub doubled-fits : (widest j : ℕ) → widest ≤ MAX_TOTAL_LOAD → j < 24 → widest * 2 ^ j * 2 < 2 ^ 128
doubled-fits widest j narrow few =
    let power : 2 ^ j ≤ 2 ^ 24 = pow-le-pow_right {n = 2} (omega arith) {i = j} {j = 24} (omega arith) in
    let product : widest * 2 ^ j ≤ MAX_TOTAL_LOAD * 2 ^ 24 = mul-le-mul narrow power in
    omega (arith, product)

-- a widest gap above 0, doubled some times, is above 0
pub positive-times : (widest j : ℕ) → 0 < widest → 0 < widest * 2 ^ j
positive-times widest j some =
    let power : 1 ≤ 2 ^ j = one-le-pow j 2 (omega arith) in
    let product : 1 * 1 ≤ widest * 2 ^ j = mul-le-mul {n₁ = 1} {m₁ = 1} {n₂ = widest} {m₂ = 2 ^ j} (omega arith) power in
    omega (arith, product)

-- a gap doubled so many times, and then doubled again, is the gap doubled one time more
pub doubled : (widest j : ℕ) → widest * 2 ^ j * 2 ≡ widest * 2 ^ (j + 1)
doubled widest j =
    let power : 2 ^ (j + 1) ≡ 2 ^ j * 2 = rw add-one (pow-suc 2 j) in
    rw power (omega arith)
