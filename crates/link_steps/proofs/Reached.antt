-- What the steps of a link tell of its least module costs.
use Rattle.std.proofs.Common.{ℕ, zero, suc, ◌≡◌, ◌<◌, ◌≤◌, inl, inr, List, length, arith}
use Rattle.plan_base.specs.declared.parts.CountLaw.{CountLaw}
use Rattle.plan_base.specs.declared.parts.Link.{Link}
use Rattle.plan_base.specs.Designs.{module_cost_with}
use Rattle.link_steps.specs.declared.step.Step.{Step}
use Rattle.link_steps.specs.Costs.{CarriesOn, CannotCarryOn, IsLeastModuleCostOn}
use Rattle.link_steps.specs.Steps.{step_at, last_of, AreRising, AreSteps, AreAllSteps}
use Rattle.link_steps.proofs.Order.{either_way}

-- what carries a load carries a smaller one
pub CarriesOn-less : {law : CountLaw} (l : Link) (low high : ℕ) (counts : List ℕ) → low ≤ high → CarriesOn law l high counts → CarriesOn law l low counts
CarriesOn-less l low high counts le carries = record { count = carries.count; enough = omega (arith, carries.enough); lawful = carries.lawful }

-- the first step that reaches a load
pub record IsFirstReaching (steps : List Step) (load place : ℕ) : Type 0 where
  pub within : place < length steps
  pub here : load ≤ (step_at steps place).reach
  pub before : (j : ℕ) → j < place → (step_at steps j).reach < load

-- a later step reaches no less
pub reach-le : (steps : List Step) (i j : ℕ) → AreRising steps → i ≤ j → j < length steps → (step_at steps i).reach ≤ (step_at steps j).reach
reach-le steps i j rising le within =
    elim (either_way j i) [
      | inl ge ↦ (let same : i ≡ j = omega arith in rw same (omega arith))
      | inr lt ↦ omega (arith, rising i j lt within)
    ]

-- where a step reaches a load, there is a first step that does
pub first_reaching : (steps : List Step) (load k : ℕ) → AreRising steps → k < length steps → load ≤ (step_at steps k).reach → (i : ℕ) × IsFirstReaching steps load i
first_reaching steps load zero rising within here = (0, record { within = within; here = here; before = λ j below. absurd (omega arith) })
first_reaching steps load (suc k) rising within here =
    elim (either_way load (step_at steps k).reach) [
      | inl earlier ↦ first_reaching steps load k rising (omega arith) earlier
      | inr past ↦ (suc k, record { within = within; here = here; before = λ j below. omega (arith, past, reach-le steps j k rising (omega arith) (omega arith)) })
    ]

-- what carries a load costs at least the first step that reaches it
pub cost-le : {law : CountLaw} (total : ℕ) (l : Link) (steps : List Step) (load i : ℕ) (counts : List ℕ) → AreSteps law total l steps → IsFirstReaching steps load i → CarriesOn law l load counts → (step_at steps i).cost ≤ module_cost_with l counts
cost-le total l steps load zero counts are first carries = omega (arith, are.no_cost)
cost-le total l steps load (suc i) counts are first carries =
    are.next i (suc i) counts (omega arith) first.within (CarriesOn-less l _ load counts (omega (arith, first.before i (omega arith))) carries)

-- the cost of the first step that reaches a load is its least module cost
pub first-least : {law : CountLaw} (total : ℕ) (l : Link) (steps : List Step) (load i : ℕ) → AreSteps law total l steps → IsFirstReaching steps load i → IsLeastModuleCostOn law l load (step_at steps i).cost
first-least total l steps load i are first =
    let attained = are.attained i first.within in
    record {
      counts = attained.counts;
      carries = CarriesOn-less l load _ attained.counts first.here attained.carries;
      attained = attained.attained;
      least = λ others carries. cost-le total l steps load i others are first carries;
    }

-- where no step reaches a load, no counts carry it
pub none-carries : {law : CountLaw} (total : ℕ) (l : Link) (steps : List Step) (load : ℕ) → AreAllSteps law total l steps → load ≤ total → (last_of steps).reach < load → CannotCarryOn law l load
none-carries total l steps load are within past = λ counts carries. are.whole (omega arith) counts (CarriesOn-less l _ load counts (omega arith) carries)

-- two least module costs of one load are the same
pub least-unique : {law : CountLaw} (l : Link) (load a b : ℕ) → IsLeastModuleCostOn law l load a → IsLeastModuleCostOn law l load b → a ≡ b
least-unique l load a b ha hb =
    omega (arith, ha.least hb.counts hb.carries, hb.least ha.counts ha.carries, ha.attained, hb.attained)
