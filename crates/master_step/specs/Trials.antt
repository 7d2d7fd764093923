-- The trial numbers of a master step.
use Rattle.std.specs.Prelude.{ℕ, zero, suc, ◌≡◌, ◌<◌, ◌+◌, ◌-◌, ◌*◌, ◌/◌, ◌^◌, min, max, List, length, slice_index, ℤ, if◌then◌else◌, nat_lt, ◌==◌}
use Rattle.plan_base.specs.declared.parts.Parts.{Parts}
use Rattle.link_steps.specs.declared.range.LoadRange.{LoadRange}
use Rattle.plan_base.specs.Facts.{top_load}
use Rattle.plan_base.specs.Sums.{sum_below}
use Rattle.plan_base.specs.Arcs.{link_at, demand_at}
use Rattle.plan_base.specs.Places.{places, link_of_place, there_of, back_of}
use Rattle.plan_base.specs.Paths.{uses_place}
use Rattle.link_steps.specs.Values.{ranges_of_link}
use Rattle.proof_tree.specs.declared.cuts.Cut.{Cut}
use Rattle.cut_values.specs.Numbers.{least_price_at, most_price_at}
use Rattle.cut_values.specs.LinkValues.{IsNumbersValue, AreFirstNumbersLoads}
use Rattle.master_step.specs.Columns.{Choices, least_column}

-- the load that the least columns put on a place, in load grains
abbrev pub column_load : Parts → Choices → List ℕ → ℕ → ℕ
column_load p choices prices q = sum_below (λ k. if uses_place p q (least_column p prices (choices k)) then (demand_at p k).load else 0) (length p.demands)

-- the first loads of a link's places that give the link its value at these numbers, in load grains
pub record HasValueLoads (p : Parts) (cuts : List Cut) (ranges : List LoadRange) (numbers : List ℕ) (e load back : ℕ) : Type 0 where
  pub value : ℤ
  pub is_value : IsNumbersValue p cuts e (ranges_of_link p ranges e) numbers value
  pub are_first : AreFirstNumbersLoads p cuts e (ranges_of_link p ranges e) numbers value load back

-- such loads of the places of the links before a count
abbrev pub AreLoadsBefore : Parts → List Cut → List LoadRange → List ℕ → ℕ → (ℕ → ℕ) → Type 0
AreLoadsBefore p cuts ranges numbers count loads = (e : ℕ) → e < count → HasValueLoads p cuts ranges numbers e (there_of p loads e) (back_of p loads e)

-- such a load for each place
abbrev pub AreValueLoads : Parts → List Cut → List LoadRange → List ℕ → (ℕ → ℕ) → Type 0
AreValueLoads p cuts ranges numbers loads = AreLoadsBefore p cuts ranges numbers (length p.links) loads

-- how far two loads are apart
abbrev pub apart : ℕ → ℕ → ℕ
apart load other = (load - other) + (other - load)

-- the greatest of f 0 .. f (n - 1), and 0 where n is 0
abbrev pub max_below : (ℕ → ℕ) → ℕ → ℕ
max_below f zero = 0
max_below f (suc n) = max (max_below f n) (f n)

-- the widest gap: the most that the load of the columns and the value's load are apart on a place
abbrev pub widest_gap : Parts → (ℕ → ℕ) → (ℕ → ℕ) → ℕ
widest_gap p columns values = max_below (λ q. apart (columns q) (values q)) (places p)

-- the price of a place whose link may carry load, and 0 for another one
abbrev pub loaded_price : Parts → List ℕ → ℕ → ℕ
loaded_price p prices q = if top_load p (link_at p (link_of_place p q)) == 0 then 0 else slice_index prices q

-- the greatest price of the places whose links may carry load, and at least 1
abbrev pub greatest_price : Parts → List ℕ → ℕ
greatest_price p prices = max 1 (max_below (loaded_price p prices) (places p))

-- a price moved: by the gap times the greatest price over a divisor, rounded down; up where the columns put more on the
-- place than the value's load, else down; not below the low end, and not above the high one
abbrev pub moved : ℕ → ℕ → ℕ → ℕ → ℕ → ℕ → ℕ → ℕ
moved low high greatest divisor columns value price =
    if nat_lt value columns then min high (price + apart columns value * greatest / divisor) else max low (price - apart columns value * greatest / divisor)

-- the numbers of a trial: each price moved, with the widest gap times a power of 2 as the divisor, as far as the rates
-- permit; only where there is a gap
pub record IsTrial (p : Parts) (cuts : List Cut) (ranges : List LoadRange) (choices : Choices) (numbers : List ℕ) (j : ℕ) (trial : List ℕ) : Type 0 where
  pub loads : ℕ → ℕ
  pub are_loads : AreValueLoads p cuts ranges numbers loads
  pub some_gap : 0 < widest_gap p (column_load p choices numbers) loads
  pub count : length trial ≡ places p + length cuts
  pub each : (q : ℕ) → q < places p → slice_index trial q
      ≡ moved (least_price_at p cuts numbers q) (most_price_at p cuts numbers q) (greatest_price p numbers) (widest_gap p (column_load p choices numbers) loads * 2 ^ j) (column_load p choices numbers q) (loads q) (slice_index numbers q)
  pub rates : (i : ℕ) → i < length cuts → slice_index trial (places p + i) ≡ slice_index numbers (places p + i)
