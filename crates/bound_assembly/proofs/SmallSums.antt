-- The sums of a bound are small.
use Rattle.std.proofs.Common.{◌≡◌, ℕ, zero, suc, ◌+◌, ◌*◌, ◌<◌, ◌≤◌, max, List, length, set, replicate, rules, take, Option, Some, None, refl, sym, subst, arith, add-one}
use Rattle.std.specs.Prelude.{IfSome, ℤ, pos, ◌+ℤ◌}
use Rattle.std.specs.List.{sum_by}
use Rattle.std.proofs.Math.Nat.{mul-le-mul_left, div-mul-le_self}
use Rattle.std.proofs.lemmas.List.Sums.{sum_by_more, sum_by-take-le}
use Rattle.std.proofs.lemmas.List.Elements.{All-replicate, All-set}
use Rattle.plan_base.specs.declared.parts.Demand.{Demand}
use Rattle.plan_base.specs.declared.parts.Parts.{Parts}
use Rattle.plan_base.specs.declared.limits.TheConstants.{MAX_PRICED_LOAD}
use Rattle.plan_base.specs.Facts.{total_load, price_limit}
use Rattle.plan_base.specs.Sums.{sum_below}
use Rattle.plan_base.specs.Arcs.{demand_at, no_demand}
use Rattle.plan_base.proofs.SumsBelow.{sum_below-le, sum_below-times}
use Rattle.link_steps.specs.declared.range.LoadRange.{LoadRange}
use Rattle.proof_tree.specs.declared.cuts.Cut.{Cut}
use Rattle.proof_tree.specs.Bounds.{IsThousandthUp, price_total}
use Rattle.proof_tree.specs.RatedBounds.{IsRatedTotal, cut_total}
use Rattle.proof_tree.specs.RatedEvidence.{rates_in}
use Rattle.bound_assembly.specs.declared.limits.TheConstants.{MAX_PATH_LINKS}
use Rattle.bound_assembly.specs.Rounds.{length_at, left_in}
use Rattle.bound_assembly.specs.RoundBounds.{length_of, AreShort, IsRoundBound}
use Rattle.bound_assembly.proofs.Gaps.{left_none-full}

-- the first loads together are those of the first demands
loads-taken : (p : Parts) (n : ℕ) → n ≤ length p.demands → sum_below (λ k. (demand_at p k).load) n ≡ sum_by (λ k. k.load) (take n p.demands)
loads-taken p zero within = refl
loads-taken p (suc n) within =
    let more : sum_by (λ (k : Demand). k.load) (take (suc n) p.demands) ≡ sum_by (λ (k : Demand). k.load) (take n p.demands) + (demand_at p n).load =
    rw (← add-one) (sum_by_more (λ (k : Demand). k.load) p.demands n no_demand (omega arith)) in
    omega (arith, loads-taken p n (omega arith), more)

-- the loads of the first demands are at most the total load
pub loads-le : (p : Parts) (n : ℕ) → n ≤ length p.demands → sum_below (λ k. (demand_at p k).load) n ≤ total_load p
loads-le p n within = omega (arith, loads-taken p n within, sum_by-take-le (λ (k : Demand). k.load) p.demands n)

-- a length is at most the greatest
pub length-le : (p : Parts) (lengths : List (Option ℕ)) (k : ℕ) → AreShort p lengths → k < length lengths → length_of lengths k ≤ MAX_PATH_LINKS * price_limit p
length-le p lengths k short within = by_cases (length_at lengths k) refl (short k None within)
  where
    by_cases : (found : Option ℕ) → length_at lengths k ≡ found → IfSome (length_at lengths k) (λ price. price ≤ MAX_PATH_LINKS * price_limit p) → length_of lengths k ≤ MAX_PATH_LINKS * price_limit p
    by_cases None is h = rw is (omega arith)
    by_cases (Some price) is h = rw is (rw is at h)

-- the limit on each load grain comes to little
pub priced_limit-le : (p : Parts) → price_limit p * total_load p ≤ MAX_PRICED_LOAD
priced_limit-le p =
    let most : price_limit p * total_load p ≤ price_limit p * max (total_load p) 1 = mul-le-mul_left (price_limit p) (let le : total_load p ≤ max (total_load p) 1 = omega arith in le) in
    omega (arith, most, div-mul-le_self (MAX_PRICED_LOAD) (max (total_load p) 1))

-- loads times what the first demands pay at most for a load grain
pub priced_within : (p : Parts) (q : ℕ → ℕ) (n : ℕ) → n ≤ length p.demands → ((k : ℕ) → k < n → q k ≤ MAX_PATH_LINKS * price_limit p) → sum_below (λ k. (demand_at p k).load * q k) n ≤ MAX_PATH_LINKS * MAX_PRICED_LOAD
priced_within p q n within small =
    let cap : ℕ = MAX_PATH_LINKS * price_limit p in
    let each = sum_below-le (λ k. (demand_at p k).load * q k) (λ k. cap * (demand_at p k).load) n (λ i below.
    (let product : (demand_at p i).load * q i ≤ (demand_at p i).load * cap = mul-le-mul_left (demand_at p i).load (small i below) in
    omega (arith, product))) in
    let times = sum_below-times cap (λ k. (demand_at p k).load) n in
    let whole : cap * sum_below (λ k. (demand_at p k).load) n ≤ cap * total_load p = mul-le-mul_left cap (loads-le p n within) in
    omega (arith, each, times, whole, priced_limit-le p)

-- a product of the first demands' sum adds to no more than that
pub priced_next : (p : Parts) (q : ℕ → ℕ) (k load paid total : ℕ) → k < length p.demands → ((i : ℕ) → i < k + 1 → q i ≤ MAX_PATH_LINKS * price_limit p) → total ≡ sum_below (λ i. (demand_at p i).load * q i) k → load ≡ (demand_at p k).load → paid ≡ q k
    → total + load * paid ≤ MAX_PATH_LINKS * MAX_PRICED_LOAD
priced_next p q k load paid total below small sum is_load is_paid = rw (is_load, is_paid) (omega (arith, sum, priced_within p q (suc k) (omega arith) (λ i before. small i (omega arith))))

-- so for lengths
pub lengths_next : (p : Parts) (lengths : List (Option ℕ)) (k load paid total : ℕ) → AreShort p lengths → length lengths ≡ length p.demands → k < length lengths → total ≡ sum_below (λ i. (demand_at p i).load * length_of lengths i) k
    → load ≡ (demand_at p k).load → paid ≡ length_of lengths k → total + load * paid ≤ MAX_PATH_LINKS * MAX_PRICED_LOAD
lengths_next p lengths k load paid total short same below sum is_load is_paid = priced_next p (length_of lengths) k load paid total (omega (arith, below, same)) (λ i before. length-le p lengths i short (omega arith)) sum is_load is_paid

-- the thousandth of the three sums is the bound
pub round_bound : (p : Parts) (cuts : List Cut) (ranges : List LoadRange) (numbers : List ℕ) (lengths : List (Option ℕ)) (total bound : ℤ) → left_in lengths ≡ 0 → length lengths ≡ length p.demands
    → IsRatedTotal p cuts ranges numbers (rates_in p numbers) (length p.links) total
    → IsThousandthUp (pos (price_total p (length_of lengths) + cut_total p cuts (rates_in p numbers)) +ℤ total) bound → IsRoundBound p cuts ranges numbers lengths bound
round_bound p cuts ranges numbers lengths total bound none same has up =
    record {
      complete = λ k below. left_none-full lengths k none (omega arith);
      values = has.values;
      are_values = has.are_values;
      rounded = subst (λ (v : ℤ). IsThousandthUp (pos (price_total p (length_of lengths) + cut_total p cuts (rates_in p numbers)) +ℤ v) bound) (sym has.is_sum) up;
    }

-- no length is short
pub short_none : (p : Parts) (n : ℕ) → AreShort p (replicate n None)
short_none p n = All-replicate (λ (found : Option ℕ). IfSome found (λ price. price ≤ MAX_PATH_LINKS * price_limit p)) n None (search rules)

-- a short length may be put
pub short_put : (p : Parts) (lengths : List (Option ℕ)) (k price : ℕ) → AreShort p lengths → price ≤ MAX_PATH_LINKS * price_limit p → AreShort p (set lengths k (Some price))
short_put p lengths k price short within = All-set (λ (found : Option ℕ). IfSome found (λ other. other ≤ MAX_PATH_LINKS * price_limit p)) lengths k (Some price) within short

-- how lengths that are short come about
pub ruleset short_lengths = (short_none, short_put)
