-- Loads of places are at most the total load.
use Rattle.std.proofs.Common.{◌≡◌, ℕ, zero, suc, ◌+◌, ◌*◌, ◌≤◌, max, Bool, true, false, length, take, if◌then◌else◌, arith, add-one}
use Rattle.std.specs.List.{sum_by}
use Rattle.std.proofs.lemmas.List.Sums.{sum_by_more, sum_by-take-le}
use Rattle.plan_base.specs.declared.parts.Demand.{Demand}
use Rattle.plan_base.specs.declared.parts.Parts.{Parts}
use Rattle.plan_base.specs.declared.path.Design.{Design}
use Rattle.plan_base.specs.Sums.{sum_below}
use Rattle.plan_base.specs.Facts.{total_load}
use Rattle.plan_base.specs.Arcs.{demand_at, no_demand}
use Rattle.plan_base.specs.Places.{is_two_way}
use Rattle.plan_base.specs.Paths.{uses_place}
use Rattle.plan_base.specs.Designs.{path_at, load_from, load_at, need, carried}

-- a demand puts at most its load on a place
pub load_from-le : (p : Parts) (d : Design) (e k : ℕ) → load_from p d e k ≤ (demand_at p k).load
unfolding load_from
load_from-le p d e k = by_cases (uses_place p e (path_at d k))
  where
    by_cases : (b : Bool) → (if b then (demand_at p k).load else 0) ≤ (demand_at p k).load
    by_cases true = omega arith
    by_cases false = omega arith

-- the first demands together put at most their loads on a place
pub load_at-le-taken : (p : Parts) (d : Design) (e n : ℕ) → n ≤ length p.demands → sum_below (load_from p d e) n ≤ sum_by (λ k. k.load) (take n p.demands)
load_at-le-taken p d e zero within = omega arith
load_at-le-taken p d e (suc n) within =
    let more : sum_by (λ (k : Demand). k.load) (take (suc n) p.demands) ≡ sum_by (λ (k : Demand). k.load) (take n p.demands) + (demand_at p n).load =
    rw (← add-one) (sum_by_more (λ (k : Demand). k.load) p.demands n no_demand (omega arith)) in
    omega (arith, load_at-le-taken p d e n (omega arith), load_from-le p d e n, more)

-- no place's load is above the total load
pub load_at-le-total : (p : Parts) (d : Design) (e : ℕ) → load_at p d e ≤ total_load p
load_at-le-total p d e =
    let taken = load_at-le-taken p d e (length p.demands) (omega arith) in
    let whole = sum_by-take-le (λ (k : Demand). k.load) p.demands (length p.demands) in
    omega arith

-- no link needs more than the total load
pub need-le-total : (p : Parts) (d : Design) (e : ℕ) → need p d e ≤ total_load p
need-le-total p d e = by_cases (is_two_way p.orient)
  where
    by_cases : (b : Bool) → max (load_at p d (if b then 2 * e else e)) (if b then load_at p d (2 * e + 1) else 0) ≤ total_load p
    by_cases true = omega (arith, load_at-le-total p d (2 * e), load_at-le-total p d (2 * e + 1))
    by_cases false = omega (arith, load_at-le-total p d e)

-- the loads of a link's places come to at most twice the total load
pub carried-le-totals : (p : Parts) (d : Design) (e : ℕ) → carried p d e ≤ 2 * total_load p
carried-le-totals p d e = by_cases (is_two_way p.orient)
  where
    by_cases : (b : Bool) → load_at p d (if b then 2 * e else e) + (if b then load_at p d (2 * e + 1) else 0) ≤ 2 * total_load p
    by_cases true = omega (arith, load_at-le-total p d (2 * e), load_at-le-total p d (2 * e + 1))
    by_cases false = omega (arith, load_at-le-total p d e)

-- the bounds that the total load sets to places and links
pub ruleset load_laws = (load_at-le-total, need-le-total, carried-le-totals)
