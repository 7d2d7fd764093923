-- The greatest common divisor of the loads, and the measure that is made of it.
use Rattle.std.proofs.Common.{◌≡◌, ℕ, zero, suc, ◌+◌, ◌-◌, ◌*◌, ◌/◌, ◌%◌, ◌<◌, ◌≤◌, ◌⊎◌, inl, inr, Bool, true, false, eqb, length, if◌then◌else◌, refl, arith}
use Rattle.std.specs.Int.{IsGcd}
use Prim.Native.Nat.{◌∣◌}
use Rattle.std.proofs.Math.Nat.{mul-div-le, div-add-mod', mod-lt, div-le_of_le-mul, eq-zero_of_zero-dvd}
use Rattle.std.proofs.lemmas.Bool.{eqb-true, eq-eqb}
use Rattle.std.proofs.lemmas.Nat.Gcd.{dvd-zero, dvd_trans, le_of_dvd, dvd_of_mod-eq-zero, mod-eq-zero_of_dvd}
use Rattle.std.proofs.lemmas.List.Elements.{All-get_or, All-from_get_or}
use Rattle.std.proofs.lemmas.List.Sums.{AllPass-from_list_all, list_all-from_AllPass, sum_by-le, get_or-le-sum_by}
use Rattle.plan_base.specs.declared.parts.Parts.{Parts}
use Rattle.plan_base.specs.declared.parts.Demand.{Demand}
use Rattle.plan_base.specs.Facts.{total_load}
use Rattle.plan_base.specs.Arcs.{demand_at, no_demand}
use Rattle.demand_worth.specs.declared.limits.TheConstants.{MAX_MEASURES}
use Rattle.demand_worth.specs.Measures.{divides_loads, greatest_up_to, load_divisor, quotient_up, measure}

by_order : (x y : ℕ) → (x ≤ y) ⊎ (y < x)
by_order x y = grind arith

either : (b : Bool) → (b ≡ true) ⊎ (b ≡ false)
either true = inl refl
either false = inr refl

-- a number that passes, above which none does
pub greatest_up_to-is : (test : ℕ → Bool) (n g : ℕ) → g ≤ n → (0 < g → test g ≡ true) → ((d : ℕ) → g < d → d ≤ n → test d ≡ false) → greatest_up_to test n ≡ g
greatest_up_to-is test zero g within passes above = omega arith
greatest_up_to-is test (suc n) g within passes above =
    elim (by_order g n) [
      | inl earlier ↦ rw (above (suc n) (omega arith) (omega arith)) (greatest_up_to-is test n g earlier passes (λ d after to. above d after (omega arith)))
      | inr last ↦ (let is : g ≡ suc n = omega arith in
          let here : test (suc n) ≡ true = rw is at (passes (omega arith)) in
          rw (here, is) refl)
    ]

-- it is one of the numbers up to the limit
pub greatest_up_to-le : (test : ℕ → Bool) (n : ℕ) → greatest_up_to test n ≤ n
greatest_up_to-le test zero = omega arith
greatest_up_to-le test (suc n) = by_cases (test (suc n)) (greatest_up_to-le test n)
  where
    by_cases : (b : Bool) → greatest_up_to test n ≤ n → (if b then suc n else greatest_up_to test n) ≤ suc n
    by_cases true le = omega arith
    by_cases false le = omega arith

-- where 1 passes and is one of the numbers, there is one above 0
pub greatest_up_to-positive : (test : ℕ → Bool) (n : ℕ) → test 1 ≡ true → 1 ≤ n → 1 ≤ greatest_up_to test n
greatest_up_to-positive test zero passes within = absurd (omega arith)
greatest_up_to-positive test (suc n) passes within =
    elim (by_order 1 n) [
      | inl earlier ↦ by_cases (test (suc n)) (greatest_up_to-positive test n passes earlier)
      | inr last ↦ (let is : n ≡ 0 = omega arith in rw (is, passes) (omega arith))
    ]
  where
    by_cases : (b : Bool) → 1 ≤ greatest_up_to test n → 1 ≤ (if b then suc n else greatest_up_to test n)
    by_cases true le = omega arith
    by_cases false le = le

-- a number divides the load of each demand
abbrev pub DividesEach : Parts → ℕ → ℕ → Type 0
DividesEach p count d = (k : ℕ) → k < count → d ∣ (demand_at p k).load

-- a common divisor of the loads before a count, which each common divisor divides
pub record IsDivisorOf (p : Parts) (count divisor : ℕ) : Type 0 where
  pub each : DividesEach p count divisor
  pub greatest : (other : ℕ) → DividesEach p count other → other ∣ divisor

-- before the first load it is 0
pub IsDivisorOf-none : (p : Parts) → IsDivisorOf p 0 0
IsDivisorOf-none p = record { each = λ k below. absurd (omega arith); greatest = λ other all. dvd-zero other }

before_or_last : (k n : ℕ) → k < n + 1 → (k < n) ⊎ (k ≡ n)
before_or_last k n below = grind arith

-- with one load more it is that of the divisor so far and this load
pub IsDivisorOf-next : (p : Parts) (n before divisor load : ℕ) → load ≡ (demand_at p n).load → IsDivisorOf p n before → IsGcd before load divisor → IsDivisorOf p (n + 1) divisor
IsDivisorOf-next p n before divisor load is old gcd = record {
  each = λ k below. elim (before_or_last k n below) [ inl earlier ↦ dvd_trans divisor gcd.0 (old.each k earlier) | inr last ↦ rw (last, ← is) gcd.1 ];
  greatest = λ other all. gcd.2 other (old.greatest other (λ k below. all k (omega arith))) (rw is (all n (omega arith)));
}

passes_from_each : (p : Parts) (d : ℕ) → DividesEach p (length p.demands) d → divides_loads p d ≡ true
passes_from_each p d each =
    list_all-from_AllPass (λ k. eqb (k.load % d) 0) p.demands (All-from_get_or (λ (k : Demand). eqb (k.load % d) 0 ≡ true) p.demands no_demand (λ k within. eq-eqb _ _ (mod-eq-zero_of_dvd d (each k within))))

each_from_passes : (p : Parts) (d : ℕ) → divides_loads p d ≡ true → DividesEach p (length p.demands) d
each_from_passes p d passes k within =
    dvd_of_mod-eq-zero d (eqb-true _ _ (All-get_or (λ (k : Demand). eqb (k.load % d) 0 ≡ true) p.demands k no_demand within (AllPass-from_list_all (λ k. eqb (k.load % d) 0) p.demands passes)))

none_from_zeros : (p : Parts) → ((k : ℕ) → k < length p.demands → (demand_at p k).load ≡ 0) → total_load p ≡ 0
none_from_zeros p none =
    let le : total_load p ≤ length p.demands * 0 = sum_by-le (λ (k : Demand). k.load) 0 p.demands (All-from_get_or (λ (k : Demand). k.load ≤ 0) p.demands no_demand (λ k within. omega (arith, none k within))) in
    omega arith

-- a common divisor of the loads that each one divides is at most the total load
pub IsDivisorOf-le-total : (p : Parts) (divisor : ℕ) → IsDivisorOf p (length p.demands) divisor → divisor ≤ total_load p
IsDivisorOf-le-total p divisor is =
    elim (by_order divisor (total_load p)) [
      | inl le ↦ le
      | inr more ↦ absurd (
          let none : (k : ℕ) → k < length p.demands → (demand_at p k).load ≡ 0 = λ k within. zero_load k within more (by_order (demand_at p k).load 0) in
          let above = is.greatest (divisor + 1) (λ k within. rw (none k within) (dvd-zero (divisor + 1))) in
          let le = le_of_dvd (omega arith) above in
          omega (arith, le))
    ]
  where
    zero_load : (k : ℕ) → k < length p.demands → total_load p < divisor → ((demand_at p k).load ≤ 0) ⊎ (0 < (demand_at p k).load) → (demand_at p k).load ≡ 0
    zero_load k within more (inl none) = omega arith
    zero_load k within more (inr some) = absurd (let le = le_of_dvd some (is.each k within) in omega (arith, le, get_or-le-sum_by (λ (d : Demand). d.load) p.demands k no_demand within))

-- it is the greatest common divisor of the loads
pub load_divisor-is : (p : Parts) (divisor : ℕ) → IsDivisorOf p (length p.demands) divisor → load_divisor p ≡ divisor
unfolding load_divisor
load_divisor-is p divisor is =
    greatest_up_to-is (divides_loads p) (total_load p) divisor (IsDivisorOf-le-total p divisor is) (λ positive. passes_from_each p divisor is.each)
    (λ d after to. none_above d after to (either (divides_loads p d)) (by_order divisor 0))
  where
    none_above : (d : ℕ) → divisor < d → d ≤ total_load p → (divides_loads p d ≡ true) ⊎ (divides_loads p d ≡ false) → (divisor ≤ 0) ⊎ (0 < divisor) → divides_loads p d ≡ false
    none_above d after to (inr fails) order = fails
    none_above d after to (inl passes) (inr positive) = absurd (let le = le_of_dvd positive (is.greatest d (each_from_passes p d passes)) in omega (arith, le))
    none_above d after to (inl passes) (inl none) = absurd (
        let zero_is : divisor ≡ 0 = omega arith in
        let zeros = none_from_zeros p (λ k within. eq-zero_of_zero-dvd (rw zero_is at (is.each k within))) in
        omega arith)

-- the divisor is at most the total load, and 0 only where that is
pub load_divisor-le : (p : Parts) → load_divisor p ≤ total_load p
unfolding load_divisor
load_divisor-le p = greatest_up_to-le (divides_loads p) (total_load p)

pub load_divisor-positive : (p : Parts) → 1 ≤ total_load p → 1 ≤ load_divisor p
unfolding load_divisor
load_divisor-positive p some = greatest_up_to-positive (divides_loads p) (total_load p) (passes_from_each p 1 (λ k within. dvd_of_mod-eq-zero 1 (let small = mod-lt (demand_at p k).load (let one : 0 < 1 = omega arith in one) in omega arith))) some

-- so many multiples of the divisor come to little more than the total
pub multiple-le : (divisor total : ℕ) → MAX_MEASURES * (divisor * quotient_up total (MAX_MEASURES * divisor)) ≤ total + MAX_MEASURES * divisor
multiple-le divisor total = omega (arith, mul-div-le (total + MAX_MEASURES * divisor - 1) (MAX_MEASURES * divisor))

-- and to no less
multiple-ge : (divisor total : ℕ) → 1 ≤ divisor → total ≤ MAX_MEASURES * (divisor * quotient_up total (MAX_MEASURES * divisor))
multiple-ge divisor total positive =
    let n = total + MAX_MEASURES * divisor - 1 in
    let part = MAX_MEASURES * divisor in
    let rest : n % part < part = mod-lt n (omega arith) in
    let whole = div-add-mod' n part in
    omega (arith, rest, whole)

-- the total load comes to few measures
pub few-measures : (p : Parts) → total_load p / measure p ≤ 65536
few-measures p = div-le_of_le-mul (measure p) (by_total (by_order 1 (total_load p)))
  where
    by_total : (1 ≤ total_load p) ⊎ (total_load p < 1) → total_load p ≤ measure p * 65536
    by_total (inl some) = omega (arith, multiple-ge (load_divisor p) (total_load p) (load_divisor-positive p some))
    by_total (inr none) = omega arith
