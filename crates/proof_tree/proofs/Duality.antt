-- A bound is at most the cost of each feasible design in its region.
use Rattle.std.proofs.Common.{◌≡◌, ℕ, ◌+◌, ◌*◌, ◌<◌, ◌≤◌, Bool, true, false, List, length, slice_index, if◌then◌else◌, refl, sym, ap, ◌∙◌, arith}
use Rattle.std.specs.Prelude.{ℤ, pos, ◌+ℤ◌, ◌-ℤ◌, ◌*ℤ◌, ◌≤ℤ◌}
use Rattle.std.proofs.Math.Nat.{mul-le-mul_left}
use Rattle.std.proofs.lemmas.Int.{ints}
use Rattle.plan_base.specs.declared.parts.Parts.{Parts}
use Rattle.plan_base.specs.declared.path.Design.{Design}
use Rattle.plan_base.specs.Sums.{sum_below, int_sum_below}
use Rattle.plan_base.specs.Arcs.{link_at, demand_at}
use Rattle.plan_base.specs.Paths.{uses_place, IsSimplePath}
use Rattle.plan_base.specs.Places.{places, there_of, back_of}
use Rattle.plan_base.specs.Designs.{path_at, counts_at, load_from, load_at, need, link_cost, module_cost_with, cost_of, IsDesign, IsFeasible}
use Rattle.plan_base.proofs.PlaceSums.{sum_places, back-times}
use Rattle.link_steps.specs.declared.range.LoadRange.{LoadRange}
use Rattle.link_steps.specs.Values.{ranges_of_link, value_at, IsLinkValue}
use Rattle.link_steps.proofs.LeastCosts.{least_cost-exists}
use Rattle.arc_restrict.specs.Restrictions.{Forbidden, IsPermittedPath, LiesIn}
use Rattle.arc_restrict.specs.Prices.{price_of, IsLeastPrice}
use Rattle.arc_restrict.proofs.PathPrices.{price_of-places}
use Rattle.proof_tree.specs.Regions.{Region, AreInRange, LiesWithin}
use Rattle.proof_tree.specs.Bounds.{AreLeastPrices, price_total, IsBound}
use Rattle.plan_base.proofs.SumsBelow.{sum_below-same, sum_below-le, sum_below-times, sum_below-swap}
use Rattle.proof_tree.proofs.SignedSums.{int_sum_below-le}
use Rattle.proof_tree.proofs.RangeLaws.{Carries-feasible, loads-in_range}

-- what a demand's load at the price of a link comes to, where its path uses the link
priced_load : (p : Parts) (d : Design) (price q k : ℕ) → (demand_at p k).load * (if uses_place p q (path_at d k) then price else 0) ≡ price * load_from p d q k
unfolding load_from
priced_load p d price q k = by_cases (uses_place p q (path_at d k))
  where
    by_cases : (b : Bool) → (demand_at p k).load * (if b then price else 0) ≡ price * (if b then (demand_at p k).load else 0)
    by_cases true = omega arith
    by_cases false = omega arith

-- a demand's load at the price of its path is what its load on the places comes to at their prices
demand_price : (p : Parts) (prices : List ℕ) (d : Design) (k : ℕ) → IsSimplePath p (demand_at p k) (path_at d k)
    → (demand_at p k).load * price_of p prices (path_at d k) ≡ sum_below (λ q. slice_index prices q * load_from p d q k) (places p)
demand_price p prices d k simple =
    let load = (demand_at p k).load in
    let n = places p in
    let by_places = price_of-places p (demand_at p k) prices (path_at d k) simple in
    let times = sum_below-times load (λ q. if uses_place p q (path_at d k) then slice_index prices q else 0) n in
    let each = sum_below-same (λ q. load * (if uses_place p q (path_at d k) then slice_index prices q else 0)) (λ q. slice_index prices q * load_from p d q k) n (λ q below. priced_load p d (slice_index prices q) q k) in
    ap (λ x. load * x) by_places ∙ sym times ∙ each

-- the loads of demands on the places, at the prices of the places, demand by demand and place by place
by_place : (p : Parts) (prices : List ℕ) (d : Design)
    → sum_below (λ k. sum_below (λ q. slice_index prices q * load_from p d q k) (places p)) (length p.demands) ≡ sum_below (λ q. slice_index prices q * load_at p d q) (places p)
by_place p prices d =
    let m = length p.demands in
    let n = places p in
    sum_below-swap (λ k q. slice_index prices q * load_from p d q k) m n
    ∙ sum_below-same (λ q. sum_below (λ k. slice_index prices q * load_from p d q k) m) (λ q. slice_index prices q * load_at p d q) n (λ q below. sum_below-times (slice_index prices q) (load_from p d q) m)

-- The places' loads at their prices come to what the demands' loads come to at the prices of their paths.
pub prices-meet : (p : Parts) (prices : List ℕ) (d : Design) → IsDesign p d
    → sum_below (λ q. slice_index prices q * load_at p d q) (places p) ≡ sum_below (λ k. (demand_at p k).load * price_of p prices (path_at d k)) (length p.demands)
prices-meet p prices d design =
    sym (sum_below-same (λ k. (demand_at p k).load * price_of p prices (path_at d k)) (λ k. sum_below (λ q. slice_index prices q * load_from p d q k) (places p)) (length p.demands) (λ k below. demand_price p prices d k (design.paths k below))
    ∙ by_place p prices d)

-- a demand's load at its least price is at most what its load on the places comes to at their prices
demand_price-le : (p : Parts) (r : Forbidden) (prices : List ℕ) (d : Design) (k price : ℕ) → IsLeastPrice p r prices k price → IsPermittedPath p r k (path_at d k)
    → (demand_at p k).load * price ≤ sum_below (λ q. slice_index prices q * load_from p d q k) (places p)
demand_price-le p r prices d k price is_least permitted =
    let load = (demand_at p k).load in
    let at_least : price ≤ price_of p prices (path_at d k) = is_least.least (path_at d k) permitted in
    let scaled : load * price ≤ load * price_of p prices (path_at d k) = mul-le-mul_left load at_least in
    let same = demand_price p prices d k permitted.simple in
    omega arith

-- loads at least prices are together at most the places' loads at their prices
pub price_total-le : (p : Parts) (r : Forbidden) (prices : List ℕ) (least_prices : ℕ → ℕ) (d : Design) → AreLeastPrices p r prices least_prices → IsDesign p d → LiesIn p d r
    → price_total p least_prices ≤ sum_below (λ q. slice_index prices q * load_at p d q) (places p)
price_total-le p r prices least_prices d are_least design lies =
    let m = length p.demands in
    let n = places p in
    let by_demand = sum_below-le (λ k. (demand_at p k).load * least_prices k) (λ k. sum_below (λ q. slice_index prices q * load_from p d q k) n) m
    (λ k below. demand_price-le p r prices d k (least_prices k) (are_least k below) (record { simple = design.paths k below; permitted = lies k below })) in
    let swapped = by_place p prices d in
    omega arith

-- the places' loads at their prices, link by link
pub carried-by_link : (p : Parts) (prices : List ℕ) (d : Design) → sum_below (λ q. slice_index prices q * load_at p d q) (places p)
    ≡ sum_below (λ e. there_of p (slice_index prices) e * there_of p (load_at p d) e + back_of p (slice_index prices) e * back_of p (load_at p d) e) (length p.links)
carried-by_link p prices d =
    sum_places p (λ q. slice_index prices q * load_at p d q)
    ∙ sum_below-same _ _ (length p.links) (λ e below. ap (λ (n : ℕ). there_of p (λ q. slice_index prices q * load_at p d q) e + n) (back-times p (slice_index prices) (load_at p d) e))

-- a link's value is at most a thousand times its cost less the prices of its loads
link_value-le : (p : Parts) (ranges : List LoadRange) (d : Design) (e price back_price : ℕ) (value : ℤ) → IsDesign p d → IsFeasible p d → e < length p.links → AreInRange p ranges d e → IsLinkValue p e (ranges_of_link p ranges e) price back_price value
    → value ≤ℤ (pos (1000 * link_cost p d e) -ℤ pos (price * there_of p (load_at p d) e + back_price * back_of p (load_at p d) e))
link_value-le p ranges d e price back_price value design feasible within in_range is_value =
    let l = link_at p e in
    let load = there_of p (load_at p d) e in
    let back = back_of p (load_at p d) e in
    let carries = Carries-feasible p d e design feasible within in
    let found = least_cost-exists l (need p d e) (counts_at d e, carries) in
    let cheaper : found.0 ≤ module_cost_with l (counts_at d e) = found.1.least (counts_at d e) carries in
    let valued : value ≤ℤ value_at price back_price load back (l.routing * (load + back) + found.0) =
    is_value.least load back (l.routing * (load + back) + found.0) in_range.there in_range.back (record { module_cost = found.0; is_least = found.1; is_sum = refl }) in
    within_value (l.routing * (load + back)) found.0 (module_cost_with l (counts_at d e)) (price * load + back_price * back) value cheaper valued
  where
    within_value : (routing cost module_cost priced : ℕ) (v : ℤ) → cost ≤ module_cost → v ≤ℤ (pos (1000 * (routing + cost)) -ℤ pos priced) → v ≤ℤ (pos (1000 * (routing + module_cost)) -ℤ pos priced)
    within_value routing cost module_cost priced v cheaper valued = omega (arith, ints)

total-le : (priced carried cost : ℕ) (values : ℤ) → priced ≤ carried → values ≤ℤ (pos (1000 * cost) -ℤ pos carried) → (pos priced +ℤ values) ≤ℤ (pos 1000 *ℤ pos cost)
total-le priced carried cost values le below = omega (arith, ints)

-- a bound is at most the cost of each feasible design in the region
pub bound-le-cost : (p : Parts) (g : Region) (prices : List ℕ) (bound : ℤ) (d : Design) → IsBound p g prices bound → IsDesign p d → IsFeasible p d → LiesWithin p d g → bound ≤ℤ pos (cost_of p d)
bound-le-cost p g prices bound d is_bound design feasible lies =
    let n = length p.links in
    let carried = sum_below (λ e. there_of p (slice_index prices) e * there_of p (load_at p d) e + back_of p (slice_index prices) e * back_of p (load_at p d) e) n in
    let by_links = carried-by_link p prices d in
    let priced : price_total p is_bound.least_prices ≤ carried = omega (arith, price_total-le p g.forbidden prices is_bound.least_prices d is_bound.are_least design lies.paths, by_links) in
    let values = int_sum_below-le is_bound.values (λ e. 1000 * link_cost p d e) (λ e. there_of p (slice_index prices) e * there_of p (load_at p d) e + back_of p (slice_index prices) e * back_of p (load_at p d) e) n
    (λ e within. link_value-le p g.ranges d e (there_of p (slice_index prices) e) (back_of p (slice_index prices) e) (is_bound.values e) design feasible within (loads-in_range p d g e within lies) (is_bound.are_values e within)) in
    let times : sum_below (λ e. 1000 * link_cost p d e) n ≡ 1000 * cost_of p d = sum_below-times 1000 (link_cost p d) n in
    is_bound.rounded.least (pos (cost_of p d)) (total-le (price_total p is_bound.least_prices) carried (cost_of p d) (int_sum_below is_bound.values n) priced (rw times at values))
