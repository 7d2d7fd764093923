-- The most that sets of demands bring to a capacity.
use Rattle.std.proofs.Common.{◌≡◌, ℕ, zero, suc, ◌+◌, ◌-◌, ◌≤◌, Bool, true, false, List, if◌then◌else◌, refl, arith}
use Rattle.std.proofs.lemmas.Bool.Decides.{nat_tests}
use Rattle.plan_base.specs.declared.parts.Parts.{Parts}
use Rattle.plan_base.specs.Sums.{sum_below}
use Rattle.demand_worth.specs.declared.surcharges.Surcharge.{Surcharge}
use Rattle.demand_worth.specs.Worths.{weight_at, brought_at, with_one, best_of}

with_one-rises : (before : ℕ → ℕ) (weight gain low high : ℕ) → low ≤ high → before low ≤ before high → before (low - weight) ≤ before (high - weight) → with_one before weight gain low ≤ with_one before weight gain high
with_one-rises before weight gain low high le same less = grind (arith, nat_tests)

-- a greater capacity brings no less
pub best_of-rises : (p : Parts) (unit : ℕ) (here : List Surcharge) (n low high : ℕ) → low ≤ high → best_of p unit here n low ≤ best_of p unit here n high
best_of-rises p unit here zero low high le = omega arith
best_of-rises p unit here (suc n) low high le =
    with_one-rises (best_of p unit here n) (weight_at p unit here n) (brought_at p here n) low high le (best_of-rises p unit here n low high le)
    (best_of-rises p unit here n (low - weight_at p unit here n) (high - weight_at p unit here n) (omega arith))

with_one-le : (before : ℕ → ℕ) (weight gain capacity most : ℕ) → before capacity ≤ most → before (capacity - weight) ≤ most → with_one before weight gain capacity ≤ most + gain
with_one-le before weight gain capacity most same less = grind (arith, nat_tests)

-- no set brings more than all together
pub best_of-le : (p : Parts) (unit : ℕ) (here : List Surcharge) (n capacity : ℕ) → best_of p unit here n capacity ≤ sum_below (brought_at p here) n
best_of-le p unit here zero capacity = omega arith
best_of-le p unit here (suc n) capacity =
    with_one-le (best_of p unit here n) (weight_at p unit here n) (brought_at p here n) capacity (sum_below (brought_at p here) n) (best_of-le p unit here n capacity) (best_of-le p unit here n (capacity - weight_at p unit here n))

with_one-fits : (before : ℕ → ℕ) (weight gain capacity : ℕ) → weight ≤ capacity → before (capacity - weight) + gain ≤ with_one before weight gain capacity
with_one-fits before weight gain capacity fits = grind (arith, nat_tests)

with_one-without : (before : ℕ → ℕ) (weight gain capacity : ℕ) → before capacity ≤ with_one before weight gain capacity
with_one-without before weight gain capacity = grind (arith, nat_tests)

-- a set whose weights are within the capacity brings no more
pub best_of-set : (p : Parts) (unit : ℕ) (here : List Surcharge) (chosen : ℕ → Bool) (n capacity : ℕ) → sum_below (λ i. if chosen i then weight_at p unit here i else 0) n ≤ capacity
    → sum_below (λ i. if chosen i then brought_at p here i else 0) n ≤ best_of p unit here n capacity
best_of-set p unit here chosen zero capacity fits = omega arith
best_of-set p unit here chosen (suc n) capacity fits = by_cases (chosen n) (best_of-set p unit here chosen n) fits
  where
    weights : ℕ
    weights = sum_below (λ i. if chosen i then weight_at p unit here i else 0) n

    gains : ℕ
    gains = sum_below (λ i. if chosen i then brought_at p here i else 0) n

    by_cases : (b : Bool) → ((c : ℕ) → weights ≤ c → gains ≤ best_of p unit here n c) → weights + (if b then weight_at p unit here n else 0) ≤ capacity
        → gains + (if b then brought_at p here n else 0) ≤ best_of p unit here (suc n) capacity
    by_cases true rest within =
        let before = rest (capacity - weight_at p unit here n) (omega arith) in
        omega (arith, before, with_one-fits (best_of p unit here n) (weight_at p unit here n) (brought_at p here n) capacity (omega arith))
    by_cases false rest within =
        omega (arith, rest capacity (omega arith), with_one-without (best_of p unit here n) (weight_at p unit here n) (brought_at p here n) capacity)

-- a capacity for all of them brings what they bring together
pub best_of-whole : (p : Parts) (unit : ℕ) (here : List Surcharge) (n capacity : ℕ) → sum_below (weight_at p unit here) n ≤ capacity → best_of p unit here n capacity ≡ sum_below (brought_at p here) n
best_of-whole p unit here zero capacity fits = refl
best_of-whole p unit here (suc n) capacity fits =
    let w = weight_at p unit here n in
    let before = best_of-whole p unit here n (capacity - w) (omega arith) in
    let low = with_one-fits (best_of p unit here n) w (brought_at p here n) capacity (omega arith) in
    let high = best_of-le p unit here (suc n) capacity in
    omega (arith, before, low, high)

-- so capacities beyond that change nothing
pub best_of-beyond : (p : Parts) (unit : ℕ) (here : List Surcharge) (n capacity : ℕ) → sum_below (weight_at p unit here) n ≤ capacity → best_of p unit here n capacity ≡ best_of p unit here n (sum_below (weight_at p unit here) n)
best_of-beyond p unit here n capacity fits = omega (arith, best_of-whole p unit here n capacity fits, best_of-whole p unit here n (sum_below (weight_at p unit here) n) (omega arith))
