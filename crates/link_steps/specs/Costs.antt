-- What it costs to carry a load on a link, over all lawful counts of its modules.
use Rattle.std.specs.Prelude.{ℕ, ◌≡◌, ◌<◌, ◌≤◌, ◌+◌, ◌*◌, max, List, length, slice_index}
use Rattle.plan_base.specs.declared.parts.CountLaw.{CountLaw}
use Rattle.plan_base.specs.declared.parts.Link.{Link}
use Rattle.plan_base.specs.declared.parts.Parts.{Parts}
use Rattle.plan_base.specs.Arcs.{link_at}
use Rattle.plan_base.specs.Facts.{total_load}
use Rattle.plan_base.specs.Designs.{capacity_with, module_cost_with, AreLawful}
use Rattle.link_steps.specs.declared.limits.TheConstants.{MAX_STEPS}
use Rattle.link_steps.specs.declared.step_fault.StepFault.{StepFault}
use Rattle.link_steps.specs.declared.step_fault.StepFault.TheVariants.{TooManySteps, OutOfMemory}

-- one count for each module of the link, together lawful and with a capacity of at least the load
pub record CarriesOn (law : CountLaw) (l : Link) (load : ℕ) (counts : List ℕ) : Type 0 where
  pub count : length counts ≡ length l.modules
  pub enough : load ≤ capacity_with l counts
  pub lawful : AreLawful law counts

-- some lawful counts carry the load
abbrev pub CanCarryOn : CountLaw → Link → ℕ → Type 0
CanCarryOn law l load = (counts : List ℕ) × CarriesOn law l load counts

-- no lawful counts carry the load
abbrev pub CannotCarryOn : CountLaw → Link → ℕ → Type 0
CannotCarryOn law l load = (counts : List ℕ) → CarriesOn law l load counts → ⊥

-- it is what some lawful counts cost that carry the load, and all that carry it cost at least as much, in cost grains
pub record IsLeastModuleCostOn (law : CountLaw) (l : Link) (load cost : ℕ) : Type 0 where
  pub counts : List ℕ
  pub carries : CarriesOn law l load counts
  pub attained : module_cost_with l counts ≡ cost
  pub least : (others : List ℕ) → CarriesOn law l load others → cost ≤ module_cost_with l others

-- lawful counts that carry the load, and none that carry it cost less
pub record AreLeastCountsOn (law : CountLaw) (l : Link) (load : ℕ) (counts : List ℕ) : Type 0 where
  pub carries : CarriesOn law l load counts
  pub least : (others : List ℕ) → CarriesOn law l load others → module_cost_with l counts ≤ module_cost_with l others

-- the routing cost of the loads of a link's places, the second 0 where it has one, and the least module cost of the larger load, in cost grains
pub record IsStepCostOn (law : CountLaw) (l : Link) (load back cost : ℕ) : Type 0 where
  pub module_cost : ℕ
  pub is_least : IsLeastModuleCostOn law l (max load back) module_cost
  pub is_sum : cost ≡ l.routing * (load + back) + module_cost

-- one count for each module of the link of this number, together lawful and with a capacity of at least the load
abbrev pub Carries : Parts → ℕ → ℕ → List ℕ → Type 0
Carries p e = CarriesOn p.law (link_at p e)

-- some lawful counts of the link of this number carry the load
abbrev pub CanCarry : Parts → ℕ → ℕ → Type 0
CanCarry p e = CanCarryOn p.law (link_at p e)

-- no lawful counts of the link of this number carry the load
abbrev pub CannotCarry : Parts → ℕ → ℕ → Type 0
CannotCarry p e = CannotCarryOn p.law (link_at p e)

-- the least cost of lawful counts that carry the load on the link of this number, in cost grains
abbrev pub IsLeastModuleCost : Parts → ℕ → ℕ → ℕ → Type 0
IsLeastModuleCost p e = IsLeastModuleCostOn p.law (link_at p e)

-- lawful counts that carry the load on the link of this number, and none that carry it cost less
abbrev pub AreLeastCounts : Parts → ℕ → ℕ → List ℕ → Type 0
AreLeastCounts p e = AreLeastCountsOn p.law (link_at p e)

-- the routing cost of the loads of the places of the link of this number, and the least module cost of the larger one, in cost grains
abbrev pub IsStepCost : Parts → ℕ → ℕ → ℕ → ℕ → Type 0
IsStepCost p e = IsStepCostOn p.law (link_at p e)

-- a step of the link ends at the load: it is carried, and one load grain more costs more, or is not carried
pub record IsStepEnd (p : Parts) (e load : ℕ) : Type 0 where
  pub cost : ℕ
  pub is_least : IsLeastModuleCost p e load cost
  pub next : (more : ℕ) → IsLeastModuleCost p e (load + 1) more → cost < more

-- of the loads below this one where a step of the link ends it is the greatest
pub record IsStepEndBelow (p : Parts) (e load end : ℕ) : Type 0 where
  pub is_end : IsStepEnd p e end
  pub below : end < load
  pub greatest : (other : ℕ) → IsStepEnd p e other → other < load → other ≤ end

-- no step of the link ends at a load from the first to below the second
abbrev pub EndsNoStep : Parts → ℕ → ℕ → ℕ → Type 0
EndsNoStep p e from to = (load : ℕ) → from ≤ load → load < to → IsStepEnd p e load → ⊥

-- a step of the link ends at it, from the first load to below the second, and none ends before
pub record IsFirstStepEnd (p : Parts) (e from to end : ℕ) : Type 0 where
  pub is_end : IsStepEnd p e end
  pub enough : from ≤ end
  pub below : end < to
  pub first : EndsNoStep p e from end

-- it is the least module cost of a load from 0 to the total load
pub record IsCostWithin (law : CountLaw) (total : ℕ) (l : Link) (cost : ℕ) : Type 0 where
  pub load : ℕ
  pub within : load ≤ total
  pub is_least : IsLeastModuleCostOn law l load cost

-- some of the least module costs of the loads from 0 to the total load, in rising order
pub record AreCostsWithin (law : CountLaw) (total : ℕ) (l : Link) (costs : List ℕ) : Type 0 where
  pub rising : (i j : ℕ) → i < j → j < length costs → slice_index costs i < slice_index costs j
  pub each : (i : ℕ) → i < length costs → IsCostWithin law total l (slice_index costs i)

-- the least module costs of the loads from 0 to the total load take so many values
pub record HasSteps (law : CountLaw) (total : ℕ) (l : Link) (number : ℕ) : Type 0 where
  pub costs : List ℕ
  pub are_costs : AreCostsWithin law total l costs
  pub all : (cost : ℕ) → IsCostWithin law total l cost → (i : ℕ) × (i < length costs) × (slice_index costs i ≡ cost)
  pub count : length costs ≡ number

-- they take at most so many values
pub record HasAtMostSteps (law : CountLaw) (total : ℕ) (l : Link) (most : ℕ) : Type 0 where
  pub number : ℕ
  pub has_steps : HasSteps law total l number
  pub within : number ≤ most

-- they take more values than so many
pub record HasMoreSteps (law : CountLaw) (total : ℕ) (l : Link) (number : ℕ) : Type 0 where
  pub costs : List ℕ
  pub are_costs : AreCostsWithin law total l costs
  pub more : number < length costs

-- the first link with too many steps
pub record IsFirstPastSteps (p : Parts) (e : ℕ) : Type 0 where
  pub within : e < length p.links
  pub more : HasMoreSteps p.law (total_load p) (link_at p e) MAX_STEPS
  pub before : (i : ℕ) → i < e → HasAtMostSteps p.law (total_load p) (link_at p i) MAX_STEPS

-- when a fault comes; want of memory may always come
abbrev pub IsFaultOf : Parts → StepFault → Type 0
IsFaultOf p (TooManySteps link) = IsFirstPastSteps p link.0
IsFaultOf p OutOfMemory = Unit {0}
