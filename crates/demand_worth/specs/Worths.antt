-- The worth of a load at a place: the most that sets of whole demands which fit into it bring there by their surcharges.
use Rattle.std.specs.Prelude.{ℕ, zero, suc, ◌≡◌, ◌≤◌, ◌+◌, ◌-◌, ◌*◌, ◌/◌, nat_lt, min, max, List, length, slice_index, if◌then◌else◌}
use Rattle.plan_base.specs.declared.parts.Parts.{Parts}
use Rattle.plan_base.specs.Arcs.{demand_at}
use Rattle.demand_worth.specs.declared.limits.TheConstants.{MAX_MEASURES}
use Rattle.demand_worth.specs.declared.surcharges.Surcharge.{Surcharge}
use Rattle.demand_worth.specs.Measures.{measure}
use Rattle.demand_worth.specs.Surcharges.{surcharge_at, on_place}

-- the load of a surcharge's demand, in load grains
abbrev pub load_of : Parts → Surcharge → ℕ
load_of p s = (demand_at p s.demand.0).load

-- what a demand brings to a place by its surcharge, in thousandths of a cost grain
abbrev pub brought : Parts → Surcharge → ℕ
brought p s = s.number * load_of p s

-- the weight of the demand of a surcharge among some, in units of so many load grains, rounded down
abbrev pub weight_at : Parts → ℕ → List Surcharge → ℕ → ℕ
weight_at p unit here i = load_of p (surcharge_at here i) / unit

-- what that demand brings
abbrev pub brought_at : Parts → List Surcharge → ℕ → ℕ
brought_at p here i = brought p (surcharge_at here i)

-- the most that may be brought to a capacity with one demand more, which has a weight: without it, or where it fits with it
abbrev pub with_one : (ℕ → ℕ) → ℕ → ℕ → ℕ → ℕ
with_one before weight gain capacity = if nat_lt capacity weight then before capacity else max (before capacity) (before (capacity - weight) + gain)

-- the most that sets of the first demands bring whose weights together are at most a capacity
abbrev pub best_of : Parts → ℕ → List Surcharge → ℕ → ℕ → ℕ
best_of p unit here zero capacity = 0
best_of p unit here (suc n) capacity = with_one (best_of p unit here n) (weight_at p unit here n) (brought_at p here n) capacity

-- the worth of a load by the surcharges on a place, in a unit of so many load grains
abbrev pub worth_by : Parts → ℕ → List Surcharge → ℕ → ℕ
worth_by p unit here load = best_of p unit here (length here) (load / unit)

-- the worth of a load at a place, in thousandths of a cost grain
abbrev pub worth_at : Parts → List Surcharge → ℕ → ℕ → ℕ
worth_at p list q load = worth_by p (measure p) (on_place list q) load

-- what a row holds: what each capacity up to the last brings at most, in units of so many load grains
pub record WorthCells : Type 0 where
  pub unit : ℕ
  pub last : ℕ
  pub cells : List ℕ

-- a cell for each capacity that an instance may have, of which those up to the last are in use
pub record AreCells (row : WorthCells) : Type 0 where
  pub positive : 1 ≤ row.unit
  pub within : row.last ≤ MAX_MEASURES
  pub room : length row.cells ≡ MAX_MEASURES + 1

-- what the row says of a load
abbrev pub worth_in : WorthCells → ℕ → ℕ
worth_in row load = slice_index row.cells (min (load / row.unit) row.last)

-- the row says the worth at a place of each load up to the most
abbrev pub AreWorths : Parts → List Surcharge → ℕ → ℕ → WorthCells → Type 0
AreWorths p list q most row = (load : ℕ) → load ≤ most → worth_in row load ≡ worth_at p list q load
