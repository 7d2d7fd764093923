-- How a table keeps the steps of links, and how they are made. No public contract cites it.
use Rattle.std.specs.Prelude.{ℕ, ◌≡◌, ◌<◌, ◌≤◌, ◌+◌, ◌-◌, ◌*◌, ◌/◌, ◌⊎◌, min, List, [], length, Option, Some, None, slice_index, slice_index_or}
use Rattle.plan_base.specs.declared.parts.CountLaw.{CountLaw}
use Rattle.plan_base.specs.declared.parts.CountLaw.TheVariants.{Any, AtMostOne}
use Rattle.plan_base.specs.declared.parts.Link.{Link}
use Rattle.plan_base.specs.declared.parts.Parts.{Parts}
use Rattle.plan_base.specs.Arcs.{link_at}
use Rattle.plan_base.specs.Facts.{total_load, top_load}
use Rattle.plan_base.specs.declared.limits.TheConstants.{MODULE_COST_BOUND, MAX_COUNT, MAX_TOTAL_LOAD}
use Rattle.plan_base.specs.Designs.{module_at, module_cost_with}
use Rattle.plan_base.specs.declared.ids.LinkId.{LinkId}
use Rattle.link_steps.specs.Costs.{CarriesOn, CannotCarryOn, HasMoreSteps}
use Rattle.link_steps.specs.declared.step_fault.StepFault.{StepFault}
use Rattle.link_steps.specs.declared.step_fault.StepFault.TheVariants.{TooManySteps, OutOfMemory}
use Rattle.link_steps.specs.declared.step.Step.{Step}
use Rattle.link_steps.specs.declared.ends.End.{End}
use Rattle.link_steps.specs.declared.limits.TheConstants.{MAX_STEPS}

-- what is read past the last step
abbrev pub no_step : Step
no_step = record { reach = 0; cost = 0; before = 0; added = 0 }

-- the step at a place
abbrev pub step_at : List Step → ℕ → Step
step_at steps i = slice_index_or steps i no_step

-- the last of some steps
abbrev pub last_of : List Step → Step
last_of steps = step_at steps (length steps - 1)

-- the reaches rise
abbrev pub AreRising : List Step → Type 0
AreRising steps = (i j : ℕ) → i < j → j < length steps → (step_at steps i).reach < (step_at steps j).reach

-- a module of no cost and of some capacity
pub record IsFree (l : Link) (m : ℕ) : Type 0 where
  pub within : m < length l.modules
  pub capacity : 0 < (module_at l m).capacity
  pub cost : (module_at l m).cost ≡ 0

-- a first step costs nothing: it has the pre-installed capacity, or by a module of no cost the total load
pub record IsFirstStep (total : ℕ) (l : Link) (step : Step) : Type 0 where
  pub no_cost : step.cost ≡ 0
  pub pre : l.pre ≤ step.reach
  pub free : l.pre < step.reach → IsFree l step.added
  pub whole : l.pre < step.reach → total ≤ step.reach
  pub within : step.reach ≤ MAX_TOTAL_LOAD

-- a step adds one module to a step before this place
pub record AddsOne (l : Link) (steps : List Step) (place : ℕ) (step : Step) : Type 0 where
  pub before : step.before < place
  pub added : step.added < length l.modules
  pub reach : step.reach ≡ (step_at steps step.before).reach + (module_at l step.added).capacity
  pub cost : step.cost ≡ (step_at steps step.before).cost + (module_at l step.added).cost

-- some steps, reaching farther and costing more one after the other
pub record AreInOrder (steps : List Step) : Type 0 where
  pub some : 0 < length steps
  pub rising : AreRising steps
  pub dearer : (i j : ℕ) → i < j → j < length steps → (step_at steps i).cost < (step_at steps j).cost
  pub cheap : (i : ℕ) → i < length steps → (step_at steps i).cost ≤ i * MODULE_COST_BOUND

-- some lawful counts carry so much at this cost
pub record Attains (law : CountLaw) (l : Link) (reach cost : ℕ) : Type 0 where
  pub counts : List ℕ
  pub carries : CarriesOn law l reach counts
  pub attained : module_cost_with l counts ≡ cost

-- The first steps of a link, each attained and the farthest of its cost: what goes past a step costs at least the next one.
pub record AreSteps (law : CountLaw) (total : ℕ) (l : Link) (steps : List Step) : Type 0 where
  pub in_order : AreInOrder steps
  pub no_cost : (step_at steps 0).cost ≡ 0
  pub attained : (i : ℕ) → i < length steps → Attains law l (step_at steps i).reach (step_at steps i).cost
  pub short : (i : ℕ) → i + 1 < length steps → (step_at steps i).reach < total
  pub next : (i j : ℕ) (counts : List ℕ) → i + 1 ≡ j → j < length steps → CarriesOn law l ((step_at steps i).reach + 1) counts
      → (step_at steps j).cost ≤ module_cost_with l counts

-- steps that grow, under the law of any counts: each but the first one adds one module to an earlier one
pub record AreGrown (total : ℕ) (l : Link) (steps : List Step) : Type 0 where
  pub first : IsFirstStep total l (step_at steps 0)
  pub adds : (i : ℕ) → 0 < i → i < length steps → AddsOne l steps i (step_at steps i)

-- a step of one module: that of its number reaches as far with the pre-installed capacity, and costs as much
pub record IsOfOne (l : Link) (step : Step) : Type 0 where
  pub within : step.added < length l.modules
  pub reach : step.reach ≡ l.pre + (module_at l step.added).capacity
  pub cost : step.cost ≡ (module_at l step.added).cost

-- steps that are chosen, under the law of at most one module: each past the pre-installed capacity is of one module
pub record AreChosen (l : Link) (steps : List Step) : Type 0 where
  pub pre : l.pre ≤ (step_at steps 0).reach
  pub one : (i : ℕ) → i < length steps → l.pre < (step_at steps i).reach → IsOfOne l (step_at steps i)

-- how the steps were made under the law
abbrev pub AreMade : CountLaw → ℕ → Link → List Step → Type 0
AreMade Any total l steps = AreGrown total l steps
AreMade AtMostOne total l steps = AreChosen l steps

-- under the law of any counts, what goes past the last step costs more
abbrev pub IsFarthest : Link → List Step → Type 0
IsFarthest l steps = (counts : List ℕ) → CarriesOn Any l ((last_of steps).reach + 1) counts → (last_of steps).cost < module_cost_with l counts

-- each module that has capacity costs something
abbrev pub HasNoFree : Link → Type 0
HasNoFree l = (m : ℕ) → m < length l.modules → 0 < (module_at l m).capacity → 0 < (module_at l m).cost

-- steps that may go on, under the law of any counts
pub record AreOpenSteps (total : ℕ) (l : Link) (steps : List Step) : Type 0 where
  pub are_steps : AreSteps Any total l steps
  pub grown : AreGrown total l steps
  pub farthest : (last_of steps).reach < total → IsFarthest l steps
  pub no_free : (last_of steps).reach < total → HasNoFree l

-- all steps of a link up to the total load, or up to all that it carries
pub record AreAllSteps (law : CountLaw) (total : ℕ) (l : Link) (steps : List Step) : Type 0 where
  pub are_steps : AreSteps law total l steps
  pub made : AreMade law total l steps
  pub within : length steps ≤ MAX_STEPS
  pub whole : (last_of steps).reach < total → CannotCarryOn law l ((last_of steps).reach + 1)

-- a step with one module added
abbrev pub with_one : Link → List Step → ℕ → ℕ → Step
with_one l steps j m = record {
  reach = (step_at steps j).reach + (module_at l m).capacity;
  cost = (step_at steps j).cost + (module_at l m).cost;
  before = j;
  added = m;
}

-- it costs less, or as much and reaches as far
pub record IsNoWorse (a b : Step) : Type 0 where
  pub cost : a.cost ≤ b.cost
  pub reach : b.cost ≤ a.cost → b.reach ≤ a.reach

-- a step that may be missing is no worse than another one; a missing one is the worst
abbrev pub IsNotWorse : Option Step → Option Step → Type 0
IsNotWorse a None = Unit {0}
IsNotWorse None (Some b) = ⊥
IsNotWorse (Some a) (Some b) = IsNoWorse a b

-- no step with this module added goes past the last one and is better
abbrev pub Beats : Link → List Step → Option Step → ℕ → Type 0
Beats l steps None m = (j : ℕ) → j < length steps → (with_one l steps j m).reach ≤ (last_of steps).reach
Beats l steps (Some best) m =
    (j : ℕ) → j < length steps → (last_of steps).reach < (with_one l steps j m).reach → IsNoWorse best (with_one l steps j m)

-- a step with one module added that goes past the last one
pub record IsNextStep (l : Link) (steps : List Step) (step : Step) : Type 0 where
  pub adds : AddsOne l steps (length steps) step
  pub farther : (last_of steps).reach < step.reach

-- the module adds too little to the steps before this place to go past the last one
abbrev pub IsPassedBy : Link → List Step → ℕ → ℕ → Type 0
IsPassedBy l steps m place = (j : ℕ) → j < place → (step_at steps j).reach + (module_at l m).capacity ≤ (last_of steps).reach

-- for each module a place, before which it adds too little to go past the last step
pub record AreStarts (l : Link) (steps : List Step) (starts : List ℕ) : Type 0 where
  pub count : length starts ≡ length l.modules
  pub within : (m : ℕ) → m < length starts → slice_index starts m ≤ length steps
  pub passed : (m : ℕ) → m < length starts → IsPassedBy l steps m (slice_index starts m)

-- steps of the link, up to some total load
pub record AreStepsOf (law : CountLaw) (l : Link) (steps : List Step) : Type 0 where
  pub total : ℕ
  pub are_steps : AreSteps law total l steps
  pub made : AreMade law total l steps

-- lawful counts that carry a load at the cost of a step, none of them too large
pub record IsMadeOf (law : CountLaw) (l : Link) (step : Step) (load : ℕ) (counts : List ℕ) : Type 0 where
  pub carries : CarriesOn law l load counts
  pub cost : module_cost_with l counts ≡ step.cost
  pub few : (m : ℕ) → m < length l.modules → slice_index counts m ≤ MAX_COUNT

-- where a step ends, for a link with this top load
abbrev pub end_at : ℕ → Step → End
end_at top step = record { cost = step.cost; load = min step.reach top; from = 0 }

-- what is read past the last end
abbrev pub no_end : End
no_end = record { cost = 0; load = 0; from = 0 }

-- the end at a place
abbrev pub end_in : List End → ℕ → End
end_in ends i = slice_index_or ends i no_end

-- each end has a greater load and a greater cost than the one before
pub record AreRisingEnds (ends : List End) : Type 0 where
  pub farther : (i j : ℕ) → i < j → j < length ends → (end_in ends i).load < (end_in ends j).load
  pub dearer : (i j : ℕ) → i < j → j < length ends → (end_in ends i).cost < (end_in ends j).cost

-- the greatest slope at which an end is as good as a later one, in thousandths of a cost grain per load grain
abbrev pub turn : End → End → ℕ
turn end later = 1000 * (later.cost - end.cost) / (later.load - end.load)

-- each end but the first has the greatest slope at which the one before is as good, and these slopes rise
pub record AreCorners (ends : List End) : Type 0 where
  pub rising : AreRisingEnds ends
  pub turned : (i : ℕ) → i + 1 < length ends → (end_in ends (i + 1)).from ≡ turn (end_in ends i) (end_in ends (i + 1))
  pub steeper : (i j : ℕ) → 0 < i → i < j → j < length ends → (end_in ends i).from < (end_in ends j).from

-- the slope of an end behind these ones, where it is greater than theirs
pub record IsFrom (ends : List End) (next : End) (from : ℕ) : Type 0 where
  pub turned : (i : ℕ) → i + 1 ≡ length ends → from ≡ turn (end_in ends i) next
  pub steeper : (i : ℕ) → 0 < i → i < length ends → (end_in ends i).from < from

-- At this slope a thousand costs less the slope times the load are no more at the first end, and less where it is farther.
pub record Outdoes (slope : ℕ) (a b : End) : Type 0 where
  pub no_more : 1000 * a.cost + slope * b.load ≤ 1000 * b.cost + slope * a.load
  pub less : b.load < a.load → 1000 * a.cost + slope * b.load < 1000 * b.cost + slope * a.load

-- the first one of the ends, among those up to a count, that no other outdoes
pub record IsBestSoFar (ends : List End) (slope count : ℕ) (best : End) : Type 0 where
  pub place : ℕ
  pub within : place < length ends
  pub before : place ≤ count
  pub is_end : best ≡ end_in ends place
  pub outdoes : (i : ℕ) → i < count → Outdoes slope best (end_in ends i)

-- the end of one of the first steps
pub record IsEndOf (steps : List Step) (top count : ℕ) (end : End) : Type 0 where
  pub place : ℕ
  pub within : place < count
  pub cost : end.cost ≡ (step_at steps place).cost
  pub load : end.load ≡ min (step_at steps place).reach top

-- one of the ends outdoes this one
pub record AreAhead (ends : List End) (slope : ℕ) (end : End) : Type 0 where
  pub place : ℕ
  pub within : place < length ends
  pub outdoes : Outdoes slope (end_in ends place) end

-- ends of steps of which one, at each slope, outdoes the end of each step before a count
pub record AreBestEnds (steps : List Step) (top count : ℕ) (ends : List End) : Type 0 where
  pub corners : AreCorners ends
  pub each : (i : ℕ) → i < length ends → IsEndOf steps top count (end_in ends i)
  pub ahead : (slope k : ℕ) → k < count → AreAhead ends slope (end_at top (step_at steps k))

-- The first ones of these ends: at each slope one of them, or the next one, outdoes each that was dropped.
pub record IsRestOf (old : List End) (next : End) (ends : List End) : Type 0 where
  pub within : length ends ≤ length old
  pub front : (i : ℕ) → i < length ends → end_in ends i ≡ end_in old i
  pub ahead : (slope i : ℕ) → i < length old → AreAhead ends slope (end_in old i) ⊎ Outdoes slope next (end_in old i)

-- the end of a step, which outdoes the end of each step
pub record IsBestEnd (steps : List Step) (top slope : ℕ) (best : End) : Type 0 where
  pub is_end_of : IsEndOf steps top (length steps) best
  pub outdoes : (k : ℕ) → k < length steps → Outdoes slope best (end_at top (step_at steps k))

-- so many thousandths of a cost for each load grain at the end of a step, rounded down
abbrev pub unit_at : ℕ → List Step → ℕ → ℕ → ℕ
unit_at part steps top i = part * (step_at steps i).cost / min (step_at steps i).reach top

-- what one of the first ends costs for each load grain
pub record IsUnitOf (part : ℕ) (steps : List Step) (top count unit : ℕ) : Type 0 where
  pub place : ℕ
  pub within : place < count
  pub positive : 0 < min (step_at steps place).reach top
  pub is_unit : unit ≡ unit_at part steps top place

-- the least of these over the first ends past load 0
abbrev pub IsLeastUnit : ℕ → List Step → ℕ → ℕ → Option ℕ → Type 0
IsLeastUnit part steps top count None = (i : ℕ) → i < count → min (step_at steps i).reach top ≡ 0
IsLeastUnit part steps top count (Some unit) =
    IsUnitOf part steps top count unit × ((i : ℕ) → i < count → 0 < min (step_at steps i).reach top → unit ≤ unit_at part steps top i)

-- the best ends of all steps of a link
pub record AreEndsOf (p : Parts) (l : Link) (ends : List End) : Type 0 where
  pub steps : List Step
  pub are_all : AreAllSteps p.law (total_load p) l steps
  pub are_best : AreBestEnds steps (top_load p l) (length steps) ends

-- the steps of the links of an instance before a count, in order, and the best ends among them
pub record AreTablesTo (p : Parts) (count : ℕ) (tables : List (List Step)) (ends : List (List End)) : Type 0 where
  pub table_count : length tables ≡ count
  pub end_count : length ends ≡ count
  pub each : (e : ℕ) → e < count → AreAllSteps p.law (total_load p) (link_at p e) (slice_index_or tables e [])
  pub best : (e : ℕ) → e < count
      → AreBestEnds (slice_index_or tables e []) (top_load p (link_at p e)) (length (slice_index_or tables e [])) (slice_index_or ends e [])

-- the steps of all links of an instance, in order, and the best ends among them
abbrev pub AreTables : Parts → List (List Step) → List (List End) → Type 0
AreTables p tables ends = AreTablesTo p (length p.links) tables ends

-- when a fault comes at one link
abbrev pub IsFaultOfLink : CountLaw → ℕ → LinkId → Link → StepFault → Type 0
IsFaultOfLink law total id l (TooManySteps link) = (link ≡ id) × HasMoreSteps law total l MAX_STEPS
IsFaultOfLink law total id l OutOfMemory = Unit {0}
