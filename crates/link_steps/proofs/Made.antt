-- How counts are made from the steps.
use Rattle.std.proofs.Common.{◌≡◌, ℕ, zero, suc, ◌+◌, ◌-◌, ◌*◌, ◌<◌, ◌≤◌, inl, inr, List, length, get_or, slice_index, ◌∙◌, arith}
use Rattle.std.proofs.Math.ListN.{set, length-set}
use Rattle.std.proofs.Math.Nat.{mul-le-mul_left}
use Rattle.std.proofs.lemmas.Grind.{div_ceil_times}
use Rattle.std.specs.Int.{div_ceil}
use Rattle.std.proofs.lemmas.List.{length-replicate, get_or-replicate, get_or-set_same, get_or-set_other, get_or_default}
use Rattle.plan_base.specs.declared.parts.CountLaw.{CountLaw}
use Rattle.plan_base.specs.declared.parts.CountLaw.TheVariants.{Any, AtMostOne}
use Rattle.plan_base.specs.declared.parts.Link.{Link}
use Rattle.plan_base.specs.declared.limits.TheConstants.{MAX_COUNT, MODULE_COST_BOUND}
use Rattle.plan_base.specs.Designs.{module_at, capacity_with, module_cost_with, AreCountsInShape}
use Rattle.link_steps.specs.declared.step.Step.{Step}
use Rattle.link_steps.specs.declared.limits.TheConstants.{MAX_STEPS}
use Rattle.link_steps.specs.Steps.{step_at, IsFree, AddsOne, IsOfOne, AreStepsOf, IsMadeOf}
use Rattle.link_steps.proofs.Order.{either_way, same_or_not}
use Rattle.link_steps.proofs.Picks.{AreOfOne-counts}
use Rattle.link_steps.proofs.Carrying.{none-carries_pre}
use Rattle.plan_base.proofs.SumsBelow.{term-le-sum_below}
use Rattle.plan_base.proofs.CountSums.{none_of_each, capacity-none, cost-none, capacity-set, cost-set}

-- the counts of the steps between two places
pub record IsMadeSoFar (l : Link) (steps : List Step) (place here : ℕ) (counts : List ℕ) : Type 0 where
  pub within : here ≤ place
  pub count : length counts ≡ length l.modules
  pub enough : (step_at steps place).reach + l.pre ≤ capacity_with l counts + (step_at steps here).reach
  pub cost : module_cost_with l counts + (step_at steps here).cost ≡ (step_at steps place).cost
  pub few : (m : ℕ) → m < length l.modules → slice_index counts m + here ≤ place

none-at : (l : Link) (m : ℕ) → m < length l.modules → slice_index (none_of_each l) m ≡ 0
none-at l m within = get_or-replicate {A = ℕ} (length l.modules) m 0 0 within

length-none : (l : Link) → length (none_of_each l) ≡ length l.modules
length-none l = length-replicate (length l.modules) 0

-- at the place that is begun with, nothing is counted yet
pub IsMadeSoFar-none : (l : Link) (steps : List Step) (place : ℕ) → IsMadeSoFar l steps place place (none_of_each l)
IsMadeSoFar-none l steps place =
    record {
      within = omega arith;
      count = length-none l;
      enough = omega (arith, capacity-none l);
      cost = omega (arith, cost-none l);
      few = λ m within. omega (arith, none-at l m within);
    }

-- a count, as it is read
item-at : (counts : List ℕ) (m item : ℕ) → m < length counts → item ≡ get_or counts m item → item ≡ slice_index counts m
item-at counts m item within is = is ∙ get_or_default counts m item 0 within

-- the count of the module that the step here adds is at most the number of places gone back so far
pub IsMadeSoFar-item : (l : Link) (steps : List Step) (place here item : ℕ) (counts : List ℕ) → AddsOne l steps here (step_at steps here) → IsMadeSoFar l steps place here counts
    → item ≡ get_or counts (step_at steps here).added item → item + here ≤ place
IsMadeSoFar-item l steps place here item counts adds so_far is =
    let same : item ≡ slice_index counts (step_at steps here).added = item-at counts _ item (omega (arith, adds.added, so_far.count)) is in
    omega (arith, so_far.few _ adds.added)

-- one module more, and one step back
pub IsMadeSoFar-next : (l : Link) (steps : List Step) (place here item : ℕ) (counts : List ℕ) → AddsOne l steps here (step_at steps here) → IsMadeSoFar l steps place here counts
    → item ≡ get_or counts (step_at steps here).added item → IsMadeSoFar l steps place (step_at steps here).before (set counts (step_at steps here).added (item + 1))
IsMadeSoFar-next l steps place here item counts adds so_far item_is =
    let m = (step_at steps here).added in
    let same : length counts ≡ length l.modules = so_far.count in
    let is_item : item ≡ slice_index counts m = item-at counts m item (omega (arith, adds.added)) item_is in
    let far = rw (← is_item) at (capacity-set l counts m (item + 1) adds.added same) in
    let dear = rw (← is_item) at (cost-set l counts m (item + 1) adds.added same) in
    let back = adds.before in
    record {
      within = omega (arith, so_far.within);
      count = length-set counts m (item + 1) ∙ same;
      enough = omega (arith, so_far.enough, adds.reach);
      cost = omega (arith, so_far.cost, adds.cost);
      few = λ i within.
          elim (same_or_not i m) [
            | inl is ↦ rw (is, get_or-set_same {A = ℕ} counts m (item + 1) 0 (omega (arith, adds.added))) (omega (arith, so_far.few m adds.added))
            | inr is_not ↦ rw (get_or-set_other {A = ℕ} counts m i (item + 1) 0 is_not) (omega (arith, so_far.few i within))
          ];
    }

-- back at the first step, the counts are those of the step
pub IsMadeOf-so_far : (l : Link) (steps : List Step) (place : ℕ) (counts : List ℕ) → AreStepsOf Any l steps → length steps ≤ MAX_STEPS → 0 < place → place < length steps → IsMadeSoFar l steps place 0 counts → IsMadeOf Any l (step_at steps place) (step_at steps place).reach counts
IsMadeOf-so_far l steps place counts are few positive within so_far =
    let first = are.made.first in
    let low : (step_at steps 0).reach < are.total = are.are_steps.short 0 (omega arith) in
    let plain : (step_at steps 0).reach ≤ l.pre =
    elim (either_way (step_at steps 0).reach l.pre) [ inl le ↦ le | inr past ↦ absurd (omega (arith, first.whole past)) ] in
    record {
      carries = record { count = so_far.count; enough = omega (arith, so_far.enough); lawful = tt };
      cost = omega (arith, so_far.cost, first.no_cost);
      few = λ m below. omega (arith, so_far.few m below);
    }

-- nothing is added where the pre-installed capacity is enough
pub IsMadeOf-none : (l : Link) (steps : List Step) (load : ℕ) → AreStepsOf Any l steps → load ≤ l.pre → IsMadeOf Any l (step_at steps 0) load (none_of_each l)
IsMadeOf-none l steps load are within =
    record {
      carries = record { count = length-none l; enough = omega (arith, capacity-none l); lawful = tt };
      cost = omega (arith, cost-none l, are.are_steps.no_cost);
      few = λ m below. omega (arith, none-at l m below);
    }

few-ceil : (count needed capacity : ℕ) → 0 < capacity → count * capacity < needed + capacity → count ≤ needed
few-ceil zero needed capacity positive below = omega arith
few-ceil (suc count) needed capacity positive below =
    let at_least : count * 1 ≤ count * capacity = mul-le-mul_left count positive in
    omega arith

-- as many free modules as the rest of the load needs
pub IsMadeOf-free : (l : Link) (steps : List Step) (load count : ℕ) → AreStepsOf Any l steps → l.pre < load → load ≤ (step_at steps 0).reach → load ≤ MAX_COUNT
    → count ≡ div_ceil (load - l.pre) (module_at l (step_at steps 0).added).capacity → IsMadeOf Any l (step_at steps 0) load (set (none_of_each l) (step_at steps 0).added count)
IsMadeOf-free l steps load count are past within small count_is =
    let first = are.made.first in
    let free : IsFree l (step_at steps 0).added = first.free (omega arith) in
    let m = (step_at steps 0).added in
    let inside : m < length l.modules = free.within in
    let bounds = rw (← count_is) at (div_ceil_times (load - l.pre) (module_at l m).capacity free.capacity) in
    let few : count ≤ load - l.pre = few-ceil count (load - l.pre) (module_at l m).capacity free.capacity bounds.1 in
    let enough : load - l.pre ≤ count * (module_at l m).capacity = bounds.0 in
    let none = none-at l m inside in
    let far = rw none at (capacity-set l (none_of_each l) m count inside (length-none l)) in
    let dear = rw (none, free.cost) at (cost-set l (none_of_each l) m count inside (length-none l)) in
    record {
      carries = record { count = length-set (none_of_each l) m count ∙ length-none l; enough = omega (arith, capacity-none l); lawful = tt };
      cost = omega (arith, cost-none l, first.no_cost);
      few = λ i below.
          elim (same_or_not i m) [
            | inl is ↦ rw (is, get_or-set_same {A = ℕ} (none_of_each l) m count 0 (omega (arith, length-none l))) (omega arith)
            | inr is_not ↦ rw (get_or-set_other {A = ℕ} (none_of_each l) m i count 0 is_not) (omega (arith, none-at l i below))
          ];
    }

-- under the law of at most one module, nothing is added where the pre-installed capacity is enough
pub IsMadeOf-pre : (l : Link) (step : Step) (load : ℕ) → load ≤ l.pre → step.cost ≡ 0 → IsMadeOf AtMostOne l step load (none_of_each l)
IsMadeOf-pre l step load within no_cost =
    record {
      carries = none-carries_pre AtMostOne l load within;
      cost = omega (arith, cost-none l, no_cost);
      few = λ m below. omega (arith, none-at l m below);
    }

-- else the module of the step
pub IsMadeOf-one : (l : Link) (step : Step) (load : ℕ) → load ≤ step.reach → IsOfOne l step → IsMadeOf AtMostOne l step load (set (none_of_each l) step.added 1)
IsMadeOf-one l step load within one =
    let m = step.added in
    let inside : m < length l.modules = one.within in
    let picked = AreOfOne-counts l m inside in
    record {
      carries = record { count = picked.count; enough = omega (arith, within, one.reach, picked.reach); lawful = picked.lawful };
      cost = omega (arith, one.cost, picked.cost);
      few = λ i below.
          elim (same_or_not i m) [
            | inl is ↦ rw (is, get_or-set_same {A = ℕ} (none_of_each l) m 1 0 (omega (arith, length-none l))) (omega arith)
            | inr is_not ↦ rw (get_or-set_other {A = ℕ} (none_of_each l) m i 1 0 is_not) (omega (arith, none-at l i below))
          ];
    }

-- such counts are in shape
pub AreCountsInShape-made : {law : CountLaw} (l : Link) (step : Step) (load : ℕ) (counts : List ℕ) → step.cost ≤ MAX_STEPS * MODULE_COST_BOUND → IsMadeOf law l step load counts → AreCountsInShape l counts
AreCountsInShape-made l step load counts cheap made = λ m within.
    record {
      count_within = made.few m within;
      cost_within = omega (arith, term-le-sum_below (λ i. slice_index counts i * (module_at l i).cost) (length l.modules) m within, made.cost);
    }
