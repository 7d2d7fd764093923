-- Prices of paths and their sums are small.
use Rattle.std.proofs.Common.{◌≡◌, ℕ, ◌*◌, ◌/◌, ◌^◌, ◌<◌, ◌≤◌, ◌-◌, min, max, List, [], ◌∷◌, length, slice_index, All, arith}
use Rattle.std.proofs.Math.Nat.{mul-le-mul, mul-le-mul_right, le-div_iff_mul-le}
use Rattle.std.proofs.lemmas.List.Sums.{sum_by-cons}
use Rattle.std.proofs.lemmas.List.{get_or_past}
use Rattle.std.proofs.lemmas.Bool.{cases_lt}
use Rattle.std.proofs.Common.{inl, inr}
use Rattle.plan_base.specs.declared.ids.ArcId.{ArcId}
use Rattle.plan_base.specs.declared.parts.Parts.{Parts}
use Rattle.plan_base.specs.declared.limits.TheConstants.{MAX_PRICED_LOAD}
use Rattle.plan_base.specs.Facts.{price_limit, total_load, IsInstance}
use Rattle.plan_base.specs.Arcs.{demand_at, no_demand}
use Rattle.plan_base.specs.Places.{place_of}
use Rattle.plan_base.specs.Paths.{IsSimplePath}
use Rattle.plan_base.proofs.PathLaws.{length-IsSimplePath}
use Rattle.plan_base.proofs.PriceLaws.{price_limit_le}
use Rattle.arc_restrict.specs.Prices.{price_of, AreWithinLimit}
use Rattle.bound_assembly.specs.declared.limits.TheConstants.{MAX_PATH_LINKS}
use Rattle.bound_assembly.proofs.SmallSums.{priced_limit-le}

-- a price that is read is within the limit
pub price-le : (prices : List ℕ) (limit e : ℕ) → All (λ price. price ≤ limit) prices → slice_index prices e ≤ limit
price-le prices limit e all = elim (cases_lt e (length prices)) [
  | inl within ↦ all e 0 within
  | inr past ↦ omega (arith, get_or_past prices e 0 past)
]

-- each arc costs at most the limit
pub price_of-le : (p : Parts) (prices : List ℕ) (limit : ℕ) (arcs : List ArcId) → All (λ price. price ≤ limit) prices → price_of p prices arcs ≤ length arcs * limit
price_of-le p prices limit [] all = omega arith
price_of-le p prices limit (a ∷ arcs) all =
    omega (arith, sum_by-cons (λ (x : ArcId). slice_index prices (place_of p x)) a arcs, price_of-le p prices limit arcs all, price-le prices limit (place_of p a) all)

-- a simple path has few arcs
few_arcs : (p : Parts) (k : ℕ) (arcs : List ArcId) → IsInstance p → k < length p.demands → IsSimplePath p (demand_at p k) arcs → length arcs ≤ MAX_PATH_LINKS
few_arcs p k arcs inst within simple = omega (arith, length-IsSimplePath p (demand_at p k) arcs inst (inst.demands k no_demand within).source simple, inst.nodes)

-- the price of a simple path is at most that of as many arcs as a path may have, each at the limit
pub path-le : (p : Parts) (k : ℕ) (prices : List ℕ) (arcs : List ArcId) → IsInstance p → k < length p.demands → AreWithinLimit p prices → IsSimplePath p (demand_at p k) arcs → price_of p prices arcs ≤ MAX_PATH_LINKS * price_limit p
path-le p k prices arcs inst within all simple =
    omega (arith, price_of-le p prices (price_limit p) arcs all, mul-le-mul_right (price_limit p) (few_arcs p k arcs inst within simple))

-- the price along a simple path is not cut
pub price_along-whole : (p : Parts) (k : ℕ) (prices : List ℕ) (arcs : List ArcId) (price : ℕ) → IsInstance p → k < length p.demands → AreWithinLimit p prices → IsSimplePath p (demand_at p k) arcs → price ≡ min (price_of p prices arcs) (2 ^ 128 - 1) → price ≡ price_of p prices arcs
price_along-whole p k prices arcs price inst within all simple is =
    omega (arith, is, path-le p k prices arcs inst within all simple, price_limit_le p)

one-le-div : (n d : ℕ) → 0 < d → d ≤ n → 1 ≤ n / d
one-le-div n d some most = (le-div_iff_mul-le some).1 (omega arith)

-- the limit is at least 1
pub limit-positive : (p : Parts) → IsInstance p → 1 ≤ price_limit p
limit-positive p inst =
    let most : max (total_load p) 1 ≤ 4 * 10 ^ 33 = omega (arith, inst.total) in
    one-le-div (4 * 10 ^ 33) (max (total_load p) 1) (omega arith) most

-- a gap times a price is within what is priced
pub product-within : (p : Parts) (gap greatest : ℕ) → gap ≤ total_load p → greatest ≤ price_limit p → gap * greatest ≤ MAX_PRICED_LOAD
product-within p gap greatest narrow low =
    omega (arith, mul-le-mul narrow low, priced_limit-le p)
