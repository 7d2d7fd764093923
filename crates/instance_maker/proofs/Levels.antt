-- A link with a module of 10 and one of 40 takes at most as many steps as there are tens of units in the total load, and one more.
use Rattle.std.proofs.Common.{◌≡◌, ℕ, zero, suc, ◌+◌, ◌*◌, ◌/◌, ◌^◌, ◌<◌, ◌≤◌, ◌⊎◌, inl, inr, List, [], ◌∷◌, length, slice_index, refl, arith}
use Rattle.std.proofs.lemmas.Bool.{cases_lt}
use Rattle.plan_base.specs.declared.parts.CountLaw.{CountLaw}
use Rattle.plan_base.specs.declared.parts.Link.{Link}
use Rattle.plan_base.specs.declared.parts.Parts.{Parts}
use Rattle.plan_base.specs.Facts.{total_load}
use Rattle.plan_base.specs.Arcs.{link_at}
use Rattle.plan_base.specs.Designs.{capacity_with, module_cost_with}
use Rattle.link_steps.specs.declared.limits.TheConstants.{MAX_STEPS}
use Rattle.link_steps.specs.declared.step_fault.StepFault.{StepFault}
use Rattle.link_steps.specs.declared.step_fault.StepFault.TheVariants.{TooManySteps, OutOfMemory}
use Rattle.link_steps.specs.Costs.{CarriesOn, IsLeastModuleCostOn, AreCostsWithin, HasMoreSteps, IsFaultOf}

-- a link without capacity of its own, with a module of 10 units and one of 40
pub record HasTens (l : Link) : Type 0 where
  pub pre : l.pre ≡ 0
  pub small : ℕ
  pub large : ℕ
  pub modules : l.modules ≡ record { capacity = 10 ^ 7; cost = small } ∷ record { capacity = 4 * 10 ^ 7; cost = large } ∷ []

-- how many tens of units carry a load
abbrev level : ℕ → ℕ
level load = (load + 9999999) / 10000000

-- what a list of modules adds to the capacity
abbrev tens : List ℕ → ℕ
tens counts = slice_index counts 0 + 4 * slice_index counts 1

capacity : (l : Link) → HasTens l → (counts : List ℕ) → capacity_with l counts ≡ tens counts * 10000000
capacity l h counts = rw (h.pre, h.modules) (omega arith)

-- counts that carry a load carry each load of no higher level
carried : (law : CountLaw) (l : Link) → HasTens l → (counts : List ℕ) (x y : ℕ) → level y ≤ level x → CarriesOn law l x counts → CarriesOn law l y counts
carried law l h counts x y low c = record { count = c.count; lawful = c.lawful; enough = omega (arith, low, c.enough, capacity l h counts) }

-- a load that costs more has a higher level
higher : (law : CountLaw) (l : Link) → HasTens l → (x y cost dear : ℕ) → IsLeastModuleCostOn law l x cost → IsLeastModuleCostOn law l y dear → cost < dear → level x < level y
higher law l h x y cost dear cheap costly less = by (cases_lt (level x) (level y))
  where
    by : (level x < level y) ⊎ (level y ≤ level x) → level x < level y
    by (inl low) = low
    by (inr high) =
        let most : dear ≤ module_cost_with l cheap.counts = costly.least cheap.counts (carried law l h cheap.counts x y high cheap.carries) in
        absurd (omega (arith, most, cheap.attained, less))

-- the levels of rising costs rise
level-at : (law : CountLaw) (l : Link) → HasTens l → (total : ℕ) (costs : List ℕ) (are : AreCostsWithin law total l costs) (i : ℕ) (within : i < length costs) → i ≤ level (are.each i within).load
level-at law l h total costs are zero within = omega arith
level-at law l h total costs are (suc i) within =
    let before : i < length costs = omega arith in
    let low = level-at law l h total costs are i before in
    let here = are.each i before in
    let next = are.each (suc i) within in
    let rises : slice_index costs i < slice_index costs (suc i) = are.rising i (suc i) (omega arith) within in
    omega (arith, low, higher law l h here.load next.load (slice_index costs i) (slice_index costs (suc i)) here.is_least next.is_least rises)

-- so few units have so few levels
pub few_levels : (law : CountLaw) (l : Link) → HasTens l → (total : ℕ) → total ≤ 36864 * 10 ^ 6 → HasMoreSteps law total l 4096 → ⊥
few_levels law l h total small more =
    let last = more.are_costs.each 4096 more.more in
    absurd (omega (arith, small, last.within, level-at law l h total more.costs more.are_costs 4096 more.more))

-- where no link takes too many steps, a table is kept from being made by want of memory alone
pub only_memory : (p : Parts) (fault : StepFault) → ((e : ℕ) → e < length p.links → HasMoreSteps p.law (total_load p) (link_at p e) MAX_STEPS → ⊥) → IsFaultOf p fault → fault ≡ OutOfMemory
only_memory p (TooManySteps link) never is = absurd (never link.0 is.within is.more)
only_memory p OutOfMemory never is = refl
