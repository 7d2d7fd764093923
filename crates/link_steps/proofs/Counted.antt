-- The steps of a link are the values that its least module cost takes.
use Rattle.std.proofs.Common.{◌≡◌, ℕ, zero, suc, ◌+◌, ◌-◌, ◌<◌, ◌≤◌, inl, inr, List, length, slice_index, map, ap, ◌∙◌, arith}
use Rattle.std.proofs.lemmas.List.{length-map, get_or-map}
use Rattle.plan_base.specs.declared.parts.CountLaw.{CountLaw}
use Rattle.plan_base.specs.declared.parts.Link.{Link}
use Rattle.plan_base.specs.declared.parts.Parts.{Parts}
use Rattle.plan_base.specs.Facts.{total_load}
use Rattle.plan_base.specs.Arcs.{link_at}
use Rattle.plan_base.specs.Faults.{link_id}
use Rattle.link_steps.specs.declared.step_fault.StepFault.{StepFault}
use Rattle.link_steps.specs.declared.step_fault.StepFault.TheVariants.{TooManySteps, OutOfMemory}
use Rattle.link_steps.specs.declared.step.Step.{Step}
use Rattle.link_steps.specs.Costs.{CarriesOn, IsCostWithin, AreCostsWithin, HasSteps, HasAtMostSteps, HasMoreSteps, IsFaultOf}
use Rattle.link_steps.specs.declared.limits.TheConstants.{MAX_STEPS}
use Rattle.link_steps.specs.Steps.{no_step, step_at, last_of, AreSteps, AreAllSteps, IsFaultOfLink}
use Rattle.link_steps.proofs.Order.{either_way}
use Rattle.link_steps.proofs.Reached.{IsFirstReaching, first_reaching, first-least, least-unique, none-carries, reach-le}

abbrev costs_of : List Step → List ℕ
costs_of steps = map (λ (s : Step). s.cost) steps

length-costs_of : (steps : List Step) → length (costs_of steps) ≡ length steps
length-costs_of steps = length-map steps (λ (s : Step). s.cost)

costs_of-at : (steps : List Step) (i : ℕ) → i < length steps → slice_index (costs_of steps) i ≡ (step_at steps i).cost
costs_of-at steps i within = get_or-map (λ (s : Step). s.cost) steps i no_step 0 within

-- a load at which a step is the first to reach
step-load : {law : CountLaw} (total : ℕ) (l : Link) (steps : List Step) (i : ℕ) → AreSteps law total l steps → i < length steps → IsCostWithin law total l (step_at steps i).cost
step-load total l steps zero are within =
    record { load = 0; within = omega arith; is_least = first-least total l steps 0 0 are (record { within = within; here = omega arith; before = λ j below. absurd (omega arith) }) }
step-load total l steps (suc i) are within =
    record {
      load = (step_at steps i).reach + 1;
      within = omega (arith, are.short i (omega arith));
      is_least = first-least total l steps ((step_at steps i).reach + 1) (suc i) are (record {
        within = within;
        here = omega (arith, are.in_order.rising i (suc i) (omega arith) within);
        before = λ j below. omega (arith, reach-le steps j i are.in_order.rising (omega arith) (omega arith));
      });
    }

-- the costs of the steps are least module costs of loads up to the total load, in rising order
pub AreCostsWithin-steps : {law : CountLaw} (total : ℕ) (l : Link) (steps : List Step) → AreSteps law total l steps → AreCostsWithin law total l (costs_of steps)
AreCostsWithin-steps total l steps are =
    let long = length-costs_of steps in
    record {
      rising = λ i j lt within. rw (costs_of-at steps i (omega arith), costs_of-at steps j (omega arith)) (are.in_order.dearer i j lt (omega arith));
      each = λ i within. rw (costs_of-at steps i (omega arith)) (step-load total l steps i are (omega arith));
    }

-- where there are more steps than a number, the least module costs take more values than so many
pub HasMoreSteps-steps : {law : CountLaw} (total : ℕ) (l : Link) (steps : List Step) (number : ℕ) → AreSteps law total l steps → number < length steps → HasMoreSteps law total l number
HasMoreSteps-steps total l steps number are more =
    record { costs = costs_of steps; are_costs = AreCostsWithin-steps total l steps are; more = omega (arith, length-costs_of steps) }

-- the first step that reaches a load up to the total load, where some counts carry it
pub carried-reached : {law : CountLaw} (total : ℕ) (l : Link) (steps : List Step) (load : ℕ) (counts : List ℕ) → AreAllSteps law total l steps → load ≤ total → CarriesOn law l load counts → (i : ℕ) × IsFirstReaching steps load i
carried-reached total l steps load counts are within carries =
    let some = are.are_steps.in_order.some in
    first_reaching steps load (length steps - 1) are.are_steps.in_order.rising (omega arith)
    (elim (either_way load (last_of steps).reach) [ inl reached ↦ reached | inr past ↦ absurd (none-carries total l steps load are within past counts carries) ])

-- the least module costs take as many values as there are steps
pub HasSteps-steps : {law : CountLaw} (total : ℕ) (l : Link) (steps : List Step) → AreAllSteps law total l steps → HasSteps law total l (length steps)
HasSteps-steps total l steps are =
    record {
      costs = costs_of steps;
      are_costs = AreCostsWithin-steps total l steps are.are_steps;
      all = λ cost is.
          (let least = is.is_least in
          let found = carried-reached total l steps is.load least.counts are is.within least.carries in
          let i = found.0 in
          let first = found.1 in (
            i,
            omega (arith, length-costs_of steps, first.within),
            costs_of-at steps i first.within ∙ least-unique l is.load _ _ (first-least total l steps is.load i are.are_steps first) least,
          ));
      count = length-costs_of steps;
    }

-- where all steps of a link are found, its least module costs take at most as many values as it may have steps
pub HasAtMostSteps-steps : {law : CountLaw} (total : ℕ) (l : Link) (steps : List Step) → AreAllSteps law total l steps → HasAtMostSteps law total l MAX_STEPS
HasAtMostSteps-steps total l steps are = record { number = length steps; has_steps = HasSteps-steps total l steps are; within = are.within }

-- the fault of a link, where the links before it have few enough steps
pub IsFaultOf-link : (p : Parts) (e : ℕ) (fault : StepFault) → e < length p.links → ((i : ℕ) → i < e → HasAtMostSteps p.law (total_load p) (link_at p i) MAX_STEPS) → IsFaultOfLink p.law (total_load p) (link_id e) (link_at p e) fault → IsFaultOf p fault
IsFaultOf-link p e (TooManySteps link) within before h =
    rw h.0 (record { within = within; more = h.1; before = before })
IsFaultOf-link p e OutOfMemory within before h = tt

-- the place of a value in a list that has them all
record IsPlaceOf (all : List ℕ) (value : ℕ) : Type 0 where
  place : ℕ
  within : place < length all
  is_value : slice_index all place ≡ value

-- in rising order, the i-th value of some stands at i or later among all
place-le : (some all : List ℕ) → ((i j : ℕ) → i < j → j < length some → slice_index some i < slice_index some j) → ((i j : ℕ) → i < j → j < length all → slice_index all i < slice_index all j)
    → ((i : ℕ) → i < length some → IsPlaceOf all (slice_index some i)) → (i : ℕ) → i < length some → (found : IsPlaceOf all (slice_index some i)) → i ≤ found.place
place-le some all rising all_rising places zero within found = omega arith
place-le some all rising all_rising places (suc i) within found =
    let earlier = places i (omega arith) in
    let le = place-le some all rising all_rising places i (omega arith) earlier in
    let less = rising i (suc i) (omega arith) within in
    let found_value = found.is_value in
    let earlier_value = earlier.is_value in
    elim (either_way (suc (earlier.place)) found.place) [
      | inl later ↦ omega arith
      | inr not_later ↦
          elim (either_way earlier.place found.place) [
            | inl not_before ↦ (let same : found.place ≡ earlier.place = omega arith in let equal = ap (slice_index all) same in absurd (omega arith))
            | inr before ↦ absurd (omega (arith, all_rising found.place earlier.place before earlier.within))
          ]
    ]

-- the least module costs do not take both at most so many values and more than so many
pub few-not-many : (law : CountLaw) (l : Link) (total number : ℕ) → HasAtMostSteps law total l number → HasMoreSteps law total l number → ⊥
few-not-many law l total number few many =
    let steps = few.has_steps in
    let places : (i : ℕ) → i < length many.costs → IsPlaceOf steps.costs (slice_index many.costs i) = λ i within.
    (let found = steps.all (slice_index many.costs i) (many.are_costs.each i within) in record { place = found.0; within = found.1; is_value = found.2 }) in
    let last = places number many.more in
    omega (arith, place-le many.costs steps.costs many.are_costs.rising steps.are_costs.rising places number many.more last, last.within, steps.count, few.within)
