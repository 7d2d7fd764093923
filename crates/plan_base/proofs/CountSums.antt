-- Capacities and costs of counts of which one changes.
use Rattle.std.proofs.Common.{◌≡◌, ℕ, ◌+◌, ◌*◌, ◌<◌, List, length, slice_index, replicate, ap, arith}
use Rattle.std.proofs.Math.ListN.{set}
use Rattle.std.proofs.lemmas.List.{get_or-replicate, get_or-set_same, get_or-set_other}
use Rattle.plan_base.specs.declared.parts.Link.{Link}
use Rattle.plan_base.specs.Sums.{sum_below}
use Rattle.plan_base.specs.Designs.{module_at, capacity_with, module_cost_with}
use Rattle.plan_base.proofs.SumsBelow.{sum_below-zero, sum_below-change}

-- counts times weights, with one count changed
pub sum-set : (w : ℕ → ℕ) (counts : List ℕ) (n k v : ℕ) → k < n → length counts ≡ n → sum_below (λ m. slice_index (set counts k v) m * w m) n + slice_index counts k * w k ≡ sum_below (λ m. slice_index counts m * w m) n + v * w k
sum-set w counts n k v within same =
    let here : slice_index (set counts k v) k ≡ v = get_or-set_same {A = ℕ} counts k v 0 (omega arith) in
    let change = sum_below-change (λ m. slice_index (set counts k v) m * w m) (λ m. slice_index counts m * w m) n k within (λ i below other. ap (λ c. c * w i) (get_or-set_other {A = ℕ} counts k i v 0 other)) in
    rw here at change

-- the capacity, with one count changed, in load grains
pub capacity-set : (l : Link) (counts : List ℕ) (k v : ℕ) → k < length l.modules → length counts ≡ length l.modules → capacity_with l (set counts k v) + slice_index counts k * (module_at l k).capacity ≡ capacity_with l counts + v * (module_at l k).capacity
capacity-set l counts k v within same =
    omega (arith, sum-set (λ m. (module_at l m).capacity) counts (length l.modules) k v within same)

-- the cost of modules, with one count changed, in cost grains
pub cost-set : (l : Link) (counts : List ℕ) (k v : ℕ) → k < length l.modules → length counts ≡ length l.modules → module_cost_with l (set counts k v) + slice_index counts k * (module_at l k).cost ≡ module_cost_with l counts + v * (module_at l k).cost
cost-set l counts k v within same =
    sum-set (λ m. (module_at l m).cost) counts (length l.modules) k v within same

-- none of each module
abbrev pub none_of_each : Link → List ℕ
none_of_each l = replicate (length l.modules) 0

-- no count, so no sum
pub sum-none : (w : ℕ → ℕ) (n : ℕ) → sum_below (λ m. slice_index (replicate n 0) m * w m) n ≡ 0
sum-none w n = sum_below-zero (λ m. slice_index (replicate n 0) m * w m) n (λ i below. rw (get_or-replicate {A = ℕ} n i 0 0 below) (omega arith))

-- without modules a link has its preinstalled capacity
pub capacity-none : (l : Link) → capacity_with l (none_of_each l) ≡ l.pre
capacity-none l = omega (arith, sum-none (λ m. (module_at l m).capacity) (length l.modules))

-- without modules no modules are paid for
pub cost-none : (l : Link) → module_cost_with l (none_of_each l) ≡ 0
cost-none l = sum-none (λ m. (module_at l m).cost) (length l.modules)
