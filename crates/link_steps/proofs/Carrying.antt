-- Which loads a link can carry.
use Rattle.std.proofs.Common.{◌≡◌, ℕ, zero, suc, ◌+◌, ◌*◌, ◌<◌, ◌≤◌, ◌⊎◌, inl, inr, Bool, true, false, List, [], ◌∷◌, length, slice_index, slice_index_or, replicate, fold, min, max, nat_lt, Option, Some, None, refl, ◌∙◌, arith}
use Rattle.std.proofs.lemmas.Bool.{ltb-true}
use Rattle.std.proofs.lemmas.List.{get_or-replicate, length-replicate, get_or_default}
use Rattle.std.proofs.lemmas.List.Folds.{Any-from_list_any}
use Rattle.std.proofs.Math.ListN.{set}
use Rattle.std.proofs.Math.Nat.{mul-le-mul_left}
use Rattle.plan_base.specs.declared.parts.CountLaw.{CountLaw}
use Rattle.plan_base.specs.declared.parts.CountLaw.TheVariants.{Any, AtMostOne}
use Rattle.plan_base.specs.declared.parts.Module.{Module}
use Rattle.plan_base.specs.declared.parts.Link.{Link}
use Rattle.plan_base.specs.declared.parts.Parts.{Parts}
use Rattle.plan_base.specs.Sums.{sum_below}
use Rattle.plan_base.specs.Facts.{total_load, top_load, useful_load, greatest_capacity, is_useful}
use Rattle.plan_base.specs.Designs.{module_at, no_module, capacity_with, AreLawful}
use Rattle.plan_base.proofs.SumsBelow.{term-le-sum_below}
use Rattle.plan_base.proofs.CountSums.{none_of_each, capacity-none}
pub use Rattle.plan_base.proofs.TopLoads.{capacity-useless}
use Rattle.explicit_steps.specs.Choices.{IsPick, reach_with}
use Rattle.link_steps.specs.Choices.{choices_of}
use Rattle.link_steps.specs.Costs.{CarriesOn, CanCarryOn}
use Rattle.link_steps.proofs.Order.{either_way}
use Rattle.link_steps.proofs.Picks.{sum-zeros, length-choices, choices_of-at, AreOfOne-counts, HasPick-counts}

-- as many of each module as the load has grains
abbrev all_of_each : Link → ℕ → List ℕ
all_of_each l load = replicate (length l.modules) load

none-lawful : (law : CountLaw) (n : ℕ) → AreLawful law (replicate n 0)
none-lawful Any n = tt
none-lawful AtMostOne n = omega (arith, sum-zeros n)

-- no module is lawful, and carries what is pre-installed
pub none-carries_pre : (law : CountLaw) (l : Link) (load : ℕ) → load ≤ l.pre → CarriesOn law l load (none_of_each l)
none-carries_pre law l load within =
    record { count = length-replicate (length l.modules) 0; enough = omega (arith, capacity-none l); lawful = none-lawful law (length l.modules) }

-- the greatest of a first capacity and those of some modules
abbrev IsFirstOrOne : ℕ → List Module → ℕ → Type 0
IsFirstOrOne first modules most = (most ≡ first) ⊎ ((m : ℕ) × (m < length modules) × ((slice_index_or modules m no_module).capacity ≡ most))

record IsGreatest (first : ℕ) (modules : List Module) (most : ℕ) : Type 0 where
  over_first : first ≤ most
  over_each : (m : ℕ) → m < length modules → (slice_index_or modules m no_module).capacity ≤ most
  attained : IsFirstOrOne first modules most

over_each-more : (first : ℕ) (x : Module) (xs : List Module) (most : ℕ) → IsGreatest (max first x.capacity) xs most → (m : ℕ) → m < length (x ∷ xs) → (slice_index_or (x ∷ xs) m no_module).capacity ≤ most
over_each-more first x xs most rest zero within = omega (arith, rest.over_first)
over_each-more first x xs most rest (suc m) within = rest.over_each m (omega arith)

attained-more : (first : ℕ) (x : Module) (xs : List Module) (most : ℕ) → IsFirstOrOne (max first x.capacity) xs most → IsFirstOrOne first (x ∷ xs) most
attained-more first x xs most (inl same) =
    elim (either_way x.capacity first) [ inl less ↦ inl (omega (arith, same)) | inr more ↦ inr (0, omega arith, omega (arith, same)) ]
attained-more first x xs most (inr (m, within, same)) = inr (suc m, omega arith, same)

IsGreatest-fold : (first : ℕ) (modules : List Module) → IsGreatest first modules (fold (λ most m. max most m.capacity) first modules)
IsGreatest-fold first [] = record { over_first = omega arith; over_each = λ m within. absurd (omega arith); attained = inl refl }
IsGreatest-fold first (x ∷ xs) =
    let rest = IsGreatest-fold (max first x.capacity) xs in
    record {
      over_first = omega (arith, rest.over_first);
      over_each = over_each-more first x xs _ rest;
      attained = attained-more first x xs _ rest.attained;
    }

-- one module carries at most the greatest capacity beside what is pre-installed
pick-within : (l : Link) (pick : Option ℕ) → IsPick (choices_of l.modules) pick → reach_with l.pre (choices_of l.modules) pick ≤ l.pre + greatest_capacity l.modules
pick-within l None is = omega arith
pick-within l (Some m) is =
    let within : m < length l.modules = omega (arith, is, length-choices l.modules) in
    rw (choices_of-at l m within) (omega (arith, (IsGreatest-fold 0 l.modules).over_each m within))

-- lawful counts of a useful link carry at most its useful load
carried-le-useful : (law : CountLaw) (l : Link) (total load : ℕ) (counts : List ℕ) → load ≤ total → CarriesOn law l load counts → load ≤ useful_load law l total
carried-le-useful Any l total load counts within carries = within
carried-le-useful AtMostOne l total load counts within carries =
    let has = HasPick-counts l counts carries.count carries.lawful in
    omega (arith, within, carries.enough, has.picked.reach, pick-within l has.pick has.is_pick)

-- a load that some counts carry is at most the top load
pub carried-le-top : (p : Parts) (l : Link) (load : ℕ) → load ≤ total_load p → CanCarryOn p.law l load → load ≤ top_load p l
carried-le-top p l load within (counts, carries) = by_cases (is_useful l) refl
  where
    by_cases : (b : Bool) → is_useful l ≡ b → load ≤ top_load p l
    by_cases true is = rw is (carried-le-useful p.law l (total_load p) load counts within carries)
    by_cases false is = rw is (let same = capacity-useless l counts is in let enough = carries.enough in omega arith)

-- so many of each carry the load, where a module has some capacity
all-carry : (l : Link) (load : ℕ) → is_useful l ≡ true → load ≤ capacity_with l (all_of_each l load)
all-carry l load is =
    let found = Any-from_list_any (λ (x : Module). nat_lt 0 x.capacity) l.modules is in
    let m = found.0 in
    let below : m < length l.modules = found.2 in
    let same : module_at l m ≡ found.1 = get_or_default l.modules m no_module found.1 below ∙ found.3 in
    let positive : 0 < (module_at l m).capacity = rw same (ltb-true _ _ found.4) in
    let term : slice_index (all_of_each l load) m * (module_at l m).capacity ≤ sum_below (λ i. slice_index (all_of_each l load) i * (module_at l i).capacity) (length l.modules) =
    term-le-sum_below (λ i. slice_index (all_of_each l load) i * (module_at l i).capacity) (length l.modules) m below in
    let count : slice_index (all_of_each l load) m ≡ load = get_or-replicate (length l.modules) m load 0 below in
    let enough : load ≤ load * (module_at l m).capacity = omega (arith, mul-le-mul_left load positive) in
    let reached = rw count at term in
    omega (arith, enough, reached)

-- no module, or one of the greatest capacity, carries each load up to the one that it reaches
greatest-can_carry : (l : Link) (load : ℕ) → load ≤ l.pre + greatest_capacity l.modules → IsFirstOrOne 0 l.modules (greatest_capacity l.modules) → CanCarryOn AtMostOne l load
greatest-can_carry l load within (inl none) = (none_of_each l, none-carries_pre AtMostOne l load (omega (arith, within, none)))
greatest-can_carry l load within (inr (m, inside, same)) =
    let one = AreOfOne-counts l m inside in
    (set (none_of_each l) m 1, record { count = one.count; enough = omega (arith, within, same, one.reach); lawful = one.lawful })

-- up to its useful load a useful link can carry each load
useful-can_carry : (law : CountLaw) (l : Link) (total load : ℕ) → is_useful l ≡ true → load ≤ useful_load law l total → CanCarryOn law l load
useful-can_carry Any l total load is within = (all_of_each l load, record { count = length-replicate (length l.modules) load; enough = all-carry l load is; lawful = tt })
useful-can_carry AtMostOne l total load is within = greatest-can_carry l load (omega (arith, within)) (IsGreatest-fold 0 l.modules).attained

-- up to the top load a link can carry each load
pub top-can_carry : (p : Parts) (l : Link) (load : ℕ) → load ≤ top_load p l → CanCarryOn p.law l load
top-can_carry p l load within = by_cases (is_useful l) refl
  where
    by_cases : (b : Bool) → is_useful l ≡ b → CanCarryOn p.law l load
    by_cases true is = useful-can_carry p.law l (total_load p) load is (rw is at within)
    by_cases false is =
        let most : load ≤ min (total_load p) l.pre = rw is at within in
        (none_of_each l, none-carries_pre p.law l load (omega arith))
