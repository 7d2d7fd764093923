-- A link that can carry a load has a least module cost for it: more of a module than the load has grains is never needed.
use Rattle.std.proofs.Common.{◌≡◌, ℕ, zero, suc, ◌+◌, ◌*◌, ◌<◌, ◌≤◌, ◌⊎◌, inl, inr, min, true, List, [], ◌∷◌, length, slice_index, sum_by, nat_le, ◌&&◌, Bool, refl, arith}
use Rattle.std.proofs.Math.Nat.{mul-le-mul_left, mul-le-mul_right}
use Rattle.std.proofs.lemmas.List.Sums.{sum_by-cons}
use Rattle.std.proofs.lemmas.Bool.{leb-true, le-leb, and_from, and_parts}
use Rattle.plan_base.specs.declared.parts.CountLaw.{CountLaw}
use Rattle.plan_base.specs.declared.parts.CountLaw.TheVariants.{Any, AtMostOne}
use Rattle.plan_base.specs.declared.parts.Link.{Link}
use Rattle.plan_base.specs.Sums.{sum_below}
use Rattle.plan_base.specs.Designs.{module_at, capacity_with, module_cost_with, AreLawful}
use Rattle.link_steps.specs.Costs.{CarriesOn, CanCarryOn, IsLeastModuleCostOn}
use Rattle.link_steps.proofs.Order.{either_way}
use Rattle.link_steps.proofs.Least.{IsLeastOf}
use Rattle.link_steps.proofs.Search.{AreCountsUpto, searched-counts}

-- at most this many of each module
abbrev capped : ℕ → List ℕ → List ℕ
capped n [] = []
capped n (c ∷ counts) = min n c ∷ capped n counts

capped-upto : (n m : ℕ) (counts : List ℕ) → length counts ≡ m → AreCountsUpto n m (capped n counts)
capped-upto n zero [] same = tt
capped-upto n (suc m) [] same = absurd (omega arith)
capped-upto n zero (c ∷ counts) same = absurd (omega arith)
capped-upto n (suc m) (c ∷ counts) same = (omega arith, capped-upto n m counts (omega arith))

length-upto : (n m : ℕ) (counts : List ℕ) → AreCountsUpto n m counts → length counts ≡ m
length-upto n zero [] h = refl
length-upto n (suc m) [] h = absurd h
length-upto n zero (c ∷ counts) h = absurd h
length-upto n (suc m) (c ∷ counts) h = omega (arith, length-upto n m counts h.1)

capped-at : (n : ℕ) (counts : List ℕ) (i : ℕ) → slice_index (capped n counts) i ≡ min n (slice_index counts i)
capped-at n [] i = omega arith
capped-at n (c ∷ counts) zero = refl
capped-at n (c ∷ counts) (suc i) = capped-at n counts i

-- so many of each still carry the load
step-enough : (load sum taken count capacity : ℕ) → min load sum ≤ taken → min load (sum + count * capacity) ≤ taken + min load count * capacity
step-enough load sum taken count capacity h = by_order (either_way count load) capacity
  where
    by_order : (count ≤ load) ⊎ (load < count) → (c : ℕ) → min load (sum + count * c) ≤ taken + min load count * c
    by_order (inl few) c = (let same : min load count ≡ count = omega arith in rw same (omega arith))
    by_order (inr many) zero = omega arith
    by_order (inr many) (suc c) = (let same : min load count ≡ load = omega arith in let all : load * 1 ≤ load * suc c = mul-le-mul_left load (omega arith) in rw same (omega arith))

capped-enough : (load : ℕ) (counts : List ℕ) (capacity : ℕ → ℕ) (n : ℕ) → min load (sum_below (λ i. slice_index counts i * capacity i) n) ≤ sum_below (λ i. slice_index (capped load counts) i * capacity i) n
capped-enough load counts capacity zero = omega arith
capped-enough load counts capacity (suc n) =
    rw (capped-at load counts n) (step-enough load (sum_below (λ i. slice_index counts i * capacity i) n) (sum_below (λ i. slice_index (capped load counts) i * capacity i) n) (slice_index counts n) (capacity n) (capped-enough load counts capacity n))

capped-cost : (load : ℕ) (counts : List ℕ) (cost : ℕ → ℕ) (n : ℕ) → sum_below (λ i. slice_index (capped load counts) i * cost i) n ≤ sum_below (λ i. slice_index counts i * cost i) n
capped-cost load counts cost zero = omega arith
capped-cost load counts cost (suc n) =
    let fewer : slice_index (capped load counts) n ≤ slice_index counts n = rw (capped-at load counts n) (omega arith) in
    omega (arith, capped-cost load counts cost n, mul-le-mul_right (cost n) fewer)

Carries-capped : {law : CountLaw} (l : Link) (load : ℕ) (counts : List ℕ) → CarriesOn law l load counts → load ≤ capacity_with l (capped load counts)
Carries-capped l load counts carries =
    let kept = capped-enough load counts (λ m. (module_at l m).capacity) (length l.modules) in
    let enough = carries.enough in
    omega arith

-- whether counts are lawful
abbrev is_lawful : CountLaw → List ℕ → Bool
is_lawful Any counts = true
is_lawful AtMostOne counts = nat_le (sum_by (λ n. n) counts) 1

tested-lawful : (law : CountLaw) (counts : List ℕ) → is_lawful law counts ≡ true → AreLawful law counts
tested-lawful Any counts is = tt
tested-lawful AtMostOne counts is = leb-true _ _ is

lawful-tested : (law : CountLaw) (counts : List ℕ) → AreLawful law counts → is_lawful law counts ≡ true
lawful-tested Any counts lawful = refl
lawful-tested AtMostOne counts lawful = le-leb _ _ lawful

capped-sum : (n : ℕ) (counts : List ℕ) → sum_by (λ c. c) (capped n counts) ≤ sum_by (λ c. c) counts
capped-sum n [] = omega arith
capped-sum n (c ∷ counts) = omega (arith, capped-sum n counts, sum_by-cons (λ (x : ℕ). x) c counts, sum_by-cons (λ (x : ℕ). x) (min n c) (capped n counts))

-- fewer of a module are no less lawful
capped-lawful : (law : CountLaw) (n : ℕ) (counts : List ℕ) → AreLawful law counts → AreLawful law (capped n counts)
capped-lawful Any n counts lawful = tt
capped-lawful AtMostOne n counts lawful = omega (arith, capped-sum n counts, lawful)

-- lawful counts that carry the load
abbrev is_enough : CountLaw → Link → ℕ → List ℕ → Bool
is_enough law l load counts = nat_le load (capacity_with l counts) && is_lawful law counts

-- such counts of no more than the load has grains
abbrev IsTried : CountLaw → Link → ℕ → List ℕ → Type 0
IsTried law l load counts = (AreCountsUpto load (length l.modules) counts) × (is_enough law l load counts ≡ true)

-- a link that can carry a load has a least module cost for it
pub least_cost-exists : {law : CountLaw} (l : Link) (load : ℕ) → CanCarryOn law l load → (cost : ℕ) × IsLeastModuleCostOn law l load cost
least_cost-exists {law} l load (some, some_carries) = by_outcome (searched-counts load (length l.modules) (is_enough law l load) (module_cost_with l)).outcome
  where
    passes : (counts : List ℕ) → CarriesOn law l load counts → IsTried law l load (capped load counts)
    passes counts carries = (
      capped-upto load (length l.modules) counts carries.count,
      and_from _ _ (le-leb _ _ (Carries-capped l load counts carries)) (lawful-tested law (capped load counts) (capped-lawful law load counts carries.lawful)),
    )

    by_outcome : ((counts : List ℕ) × IsLeastOf (IsTried law l load) (module_cost_with l) counts) ⊎ ((counts : List ℕ) → IsTried law l load counts → ⊥) → (cost : ℕ) × IsLeastModuleCostOn law l load cost
    by_outcome (inl (best, is)) = (
      module_cost_with l best,
      record {
        counts = best;
        carries = (let both = and_parts _ _ is.holds.1 in record { count = length-upto load (length l.modules) best is.holds.0; enough = leb-true _ _ both.0; lawful = tested-lawful law best both.1 });
        attained = refl;
        least = λ others carries.
            (let within : module_cost_with l best ≤ module_cost_with l (capped load others) = is.least (capped load others) (passes others carries) in
            let cheaper : module_cost_with l (capped load others) ≤ module_cost_with l others = capped-cost load others (λ m. (module_at l m).cost) (length l.modules) in
            omega arith);
      },
    )
    by_outcome (inr none) = absurd (none (capped load some) (passes some some_carries))
