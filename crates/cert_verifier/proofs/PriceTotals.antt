-- Loads times least prices, demand by demand.
use Rattle.std.proofs.Common.{◌≡◌, ℕ, zero, suc, ◌+◌, ◌*◌, ◌/◌, ◌<◌, ◌≤◌, ◌⊎◌, inl, inr, max, List, length, take, slice_index_or, Option, Some, None, refl, sym, subst, ◌∙◌, arith, add-one}
use Rattle.std.specs.List.{sum_by}
use Rattle.std.proofs.Math.Nat.{mul-le-mul_left, div-mul-le_self}
use Rattle.std.proofs.lemmas.Nat.{le-div}
use Rattle.std.proofs.lemmas.List.{get_or_default}
use Rattle.std.proofs.lemmas.List.Sums.{sum_by_more, sum_by-take-le}
use Rattle.plan_base.specs.declared.parts.Demand.{Demand}
use Rattle.plan_base.specs.declared.parts.Parts.{Parts}
use Rattle.plan_base.specs.declared.limits.TheConstants.{MAX_PRICED_LOAD}
use Rattle.plan_base.specs.Facts.{total_load}
use Rattle.plan_base.specs.Sums.{sum_below}
use Rattle.plan_base.specs.Arcs.{demand_at, no_demand}
use Rattle.arc_restrict.specs.Restrictions.{Forbidden}
use Rattle.arc_restrict.specs.Prices.{IsLeastPrice}
use Rattle.verifier_paths.specs.Labels.{label_at}
use Rattle.verifier_paths.specs.Sources.{IsPriceOf, ArePricesOf}
use Rattle.cert_verifier.specs.Totals.{IsPriceTotal}
use Rattle.cert_verifier.proofs.Terms.{HasSum, HasSum-none, HasSum-next}

-- the price of a demand, among those of all
pub price_at : (p : Parts) (r : Forbidden) (prices : List ℕ) (found : List (Option ℕ)) (k : ℕ) (item price : Option ℕ) → ArePricesOf p r prices found → k < length p.demands → item ≡ slice_index_or found k item → item ≡ price → IsPriceOf p r prices k price
price_at p r prices found k item price are within read is =
    let at : price ≡ label_at found k = sym is ∙ read ∙ get_or_default found k item None (let inside = are.count in omega (arith, within, inside)) in
    subst (IsPriceOf p r prices k) (sym at) (are.each k within)

-- the loads of the first demands
abbrev pub loads_to : Parts → ℕ → ℕ
loads_to p n = sum_below (λ k. (demand_at p k).load) n

loads-taken : (p : Parts) (n : ℕ) → n ≤ length p.demands → loads_to p n ≡ sum_by (λ k. k.load) (take n p.demands)
loads-taken p zero within = refl
loads-taken p (suc n) within =
    let more : sum_by (λ (k : Demand). k.load) (take (suc n) p.demands) ≡ sum_by (λ (k : Demand). k.load) (take n p.demands) + (demand_at p n).load =
    rw (← add-one) (sum_by_more (λ (k : Demand). k.load) p.demands n no_demand (omega arith)) in
    omega (arith, loads-taken p n (omega arith), more)

loads-le : (p : Parts) (n : ℕ) → n ≤ length p.demands → loads_to p n ≤ total_load p
loads-le p n within = omega (arith, loads-taken p n within, sum_by-take-le (λ (k : Demand). k.load) p.demands n)

-- what a load grain may be priced at
abbrev pub most_of_grain : Parts → ℕ
most_of_grain p = 511 * MAX_PRICED_LOAD / max (total_load p) 1

none_or_some : (x : ℕ) → (x ≡ 0) ⊎ (0 < x)
none_or_some x = grind arith

priced_load-le : (p : Parts) (load price : ℕ) → load ≤ total_load p → price * total_load p ≤ 511 * MAX_PRICED_LOAD → load * price ≤ load * most_of_grain p
priced_load-le p load price few small =
    elim (none_or_some (total_load p)) [
      | inl none ↦ (let is : load ≡ 0 = omega arith in rw is (omega arith))
      | inr some ↦
          (let divisor : max (total_load p) 1 ≡ total_load p = omega arith in
          let le : price ≤ most_of_grain p = le-div price (511 * MAX_PRICED_LOAD) (max (total_load p) 1) (omega arith) (rw divisor small) in
          mul-le-mul_left load le)
    ]

-- the first demands together are priced at little
whole-le : (p : Parts) (n : ℕ) → n ≤ length p.demands → loads_to p n * most_of_grain p ≤ 511 * MAX_PRICED_LOAD
whole-le p n within =
    let few : loads_to p n ≤ max (total_load p) 1 = omega (arith, loads-le p n within) in
    let most : most_of_grain p * loads_to p n ≤ most_of_grain p * max (total_load p) 1 = mul-le-mul_left (most_of_grain p) few in
    omega (arith, most, div-mul-le_self (511 * MAX_PRICED_LOAD) (max (total_load p) 1))

-- the least prices of the first demands, the sum of loads times these, and that it is small
pub record ArePriced (p : Parts) (r : Forbidden) (prices : List ℕ) (n total : ℕ) : Type 0 where
  pub has : HasSum (λ k x. IsLeastPrice p r prices k x) (λ k x. (demand_at p k).load * x) n total
  pub small : total ≤ loads_to p n * most_of_grain p

-- where no demand is counted yet, the loads times least prices add up to 0
pub priced_none : (p : Parts) (r : Forbidden) (prices : List ℕ) → ArePriced p r prices 0 0
priced_none p r prices = record { has = HasSum-none (λ k x. IsLeastPrice p r prices k x) (λ k x. (demand_at p k).load * x); small = omega arith }

-- the load of the next demand times its least price adds to those of the demands before it
pub priced_next : (p : Parts) (r : Forbidden) (prices : List ℕ) (n total price : ℕ) → n < length p.demands → ArePriced p r prices n total → IsLeastPrice p r prices n price
    → price * total_load p ≤ 511 * MAX_PRICED_LOAD → ArePriced p r prices (n + 1) (total + (demand_at p n).load * price)
priced_next p r prices n total price within priced is small =
    let load : (demand_at p n).load ≤ total_load p = omega (arith, loads-le p (suc n) (omega arith)) in
    let here = priced_load-le p (demand_at p n).load price load small in
    rw add-one (record {
      has = HasSum-next (λ k x. IsLeastPrice p r prices k x) (λ k x. (demand_at p k).load * x) n total price priced.has is;
      small = omega (arith, here, priced.small);
    })

-- the loads of the first demands times their least prices add up to at most 511 times MAX_PRICED_LOAD
pub priced-within : (p : Parts) (r : Forbidden) (prices : List ℕ) (n total : ℕ) → n ≤ length p.demands → ArePriced p r prices n total → total ≤ 511 * MAX_PRICED_LOAD
priced-within p r prices n total within priced = omega (arith, priced.small, whole-le p n within)

-- the load of the next demand times the price that is found of it adds to those before it, and the sum stays small
pub next_priced : (p : Parts) (r : Forbidden) (prices : List ℕ) (found : List (Option ℕ)) (n total load price : ℕ) (item : Option ℕ)
    → load ≡ (demand_at p n).load → n < length p.demands → ArePricesOf p r prices found → item ≡ slice_index_or found n item → item ≡ Some price
    → ArePriced p r prices n total → ArePriced p r prices (n + 1) (total + load * price) × (total + load * price ≤ 511 * MAX_PRICED_LOAD)
next_priced p r prices found n total load price item load_is within are read is priced =
    let here = price_at p r prices found n item (Some price) are within read is in
    let next = priced_next p r prices n total price within priced here.is_least here.is_small in
    rw load_is (next, priced-within p r prices (n + 1) (total + (demand_at p n).load * price) (omega (arith, within)) next)

-- the loads of all demands times their least prices add up to the price total
pub priced_all : (p : Parts) (r : Forbidden) (prices : List ℕ) (total : ℕ) → ArePriced p r prices (length p.demands) total → IsPriceTotal p r prices total
priced_all p r prices total priced = record { least_prices = priced.has.terms; are_least = priced.has.are_terms; is_total = priced.has.is_sum }
