-- What `choice_steps` promises, for the modules of a link of which it may have one at most.
use Rattle.std.proofs.Common.{◌≡◌, ℕ, zero, suc, ◌+◌, ◌-◌, ◌*◌, ◌<◌, ◌≤◌, inl, inr, List, length, slice_index_or, map, All, Option, Some, None, refl, sym, ap, subst, ◌∙◌, arith}
use Rattle.std.specs.Prelude.{sum_by}
use Rattle.std.proofs.Math.ListN.{get_or-map as map-get_or}
use Rattle.std.proofs.lemmas.List.{length-map, get_or-map}
use Rattle.plan_base.specs.declared.parts.CountLaw.TheVariants.{AtMostOne}
use Rattle.plan_base.specs.declared.parts.Link.{Link}
use Rattle.plan_base.specs.declared.limits.TheConstants.{CAPACITY_BOUND, MODULE_COST_BOUND, MAX_MODULES}
use Rattle.plan_base.specs.Facts.{IsModule}
use Rattle.plan_base.specs.Designs.{module_at, no_module, capacity_with, module_cost_with}
use Rattle.explicit_steps.specs.declared.choices.Choice.{Choice}
use Rattle.explicit_steps.specs.declared.choices.ChoiceStep.{ChoiceStep}
use Rattle.explicit_steps.specs.Choices.{IsPick, reach_with, cost_with}
use Rattle.explicit_steps.specs.Steps.{step_at as found_at, IsFirstReaching, NoneReaches, HasItsChoice}
use Rattle.link_steps.specs.Choices.{choice_of, choices_of, kept_step, AreChoiceSteps}
use Rattle.link_steps.specs.Steps.{step_at, last_of, IsOfOne, Attains, AreInOrder, AreSteps, AreChosen, AreAllSteps}
use Rattle.link_steps.proofs.Order.{either_way}
use Rattle.link_steps.proofs.Picks.{choices_of-at, length-choices, counts_with, ArePicked-counts, HasPick-counts}

-- the capacities of choices are those of modules
pub choices-small : (l : Link) → All IsModule l.modules → (k : ℕ) (d : Choice) → k < length (choices_of l.modules) → (slice_index_or (choices_of l.modules) k d).capacity < CAPACITY_BOUND
choices-small l modules k d inside =
    let within : k < length l.modules = omega (arith, inside, length-choices l.modules) in
    let capacity : (slice_index_or (choices_of l.modules) k d).capacity ≡ (module_at l k).capacity = ap (λ (choice : Choice). choice.capacity) (get_or-map choice_of l.modules k no_module d within) in
    omega (arith, capacity, (modules k no_module within).capacity)

-- no pick costs more than one module may
pick-cheap : (l : Link) → ((m : ℕ) → m < length l.modules → (module_at l m).cost < MODULE_COST_BOUND) → (pick : Option ℕ) → IsPick (choices_of l.modules) pick → cost_with (choices_of l.modules) pick ≤ MODULE_COST_BOUND
pick-cheap l cheap None is = omega arith
pick-cheap l cheap (Some m) is =
    let within : m < length l.modules = omega (arith, is, length-choices l.modules) in
    let cost : cost_with (choices_of l.modules) (Some m) ≡ (module_at l m).cost = ap (λ (choice : Choice). choice.cost) (choices_of-at l m within) in
    omega (arith, cost, cheap m within)

-- a step past the pre-installed capacity has a module
of-one : (l : Link) (choice : Option ℕ) (step : ChoiceStep) → step.choice ≡ choice → HasItsChoice l.pre (choices_of l.modules) step → l.pre < step.reach → IsOfOne l (kept_step step)
of-one l None step is has past = absurd (let reach : l.pre ≡ step.reach = rw is at has.reach in omega (arith, reach))
of-one l (Some m) step is has past =
    let pick : m < length (choices_of l.modules) = rw is at has.is_pick in
    let within : m < length l.modules = omega (arith, pick, length-choices l.modules) in
    let same = choices_of-at l m within in
    let reach : reach_with l.pre (choices_of l.modules) (Some m) ≡ step.reach = subst (λ (pick : Option ℕ). reach_with l.pre (choices_of l.modules) pick ≡ step.reach) is has.reach in
    let cost : cost_with (choices_of l.modules) (Some m) ≡ step.cost = subst (λ (pick : Option ℕ). cost_with (choices_of l.modules) pick ≡ step.cost) is has.cost in
    rw is (record {
      within = within;
      reach = sym reach ∙ ap (λ (choice : Choice). l.pre + choice.capacity) same;
      cost = sym cost ∙ ap (λ (choice : Choice). choice.cost) same;
    })

module _ (l : Link) (top : ℕ) (found : List ChoiceStep) (are : AreChoiceSteps l.pre (choices_of l.modules) top found) where
  -- the load of nothing is carried, so there is a step
  pub some : 0 < length found
  some =
      elim (either_way (length found) 0) [
        | inl none ↦ (let nowhere : NoneReaches found 0 = λ i within. absurd (omega arith) in absurd (omega (arith, (are.none 0 (omega arith)).0 nowhere None tt)))
        | inr more ↦ more
      ]

  first : IsFirstReaching found 0 0
  first = record { within = some; reaches = omega arith; before = λ i below. absurd (omega arith) }

  -- no module costs nothing
  pub first-cost : (found_at found 0).cost ≡ 0
  first-cost = omega (arith, (are.least 0 0 (omega arith) first).least None tt (omega arith))

  -- the first step reaches at least as far as what is pre-installed
  pub first-pre : l.pre ≤ (found_at found 0).reach
  first-pre = (are.choice 0 some).farthest None tt (omega arith)

  -- each step costs at most as many times the module cost bound as there are steps before it
  pub cheap : ((m : ℕ) → m < length l.modules → (module_at l m).cost < MODULE_COST_BOUND) → (i : ℕ) → i < length found → (found_at found i).cost ≤ i * MODULE_COST_BOUND
  cheap modules zero within = omega (arith, first-cost)
  cheap modules (suc i) within =
      let has = are.choice (suc i) within in
      omega (arith, pick-cheap l modules (found_at found (suc i)).choice has.is_pick, has.cost)

  -- what goes past a step is reached by the next one first
  next-first : (i j : ℕ) → i + 1 ≡ j → j < length found → IsFirstReaching found ((found_at found i).reach + 1) j
  next-first i j is within =
      record {
        within = within;
        reaches = omega (arith, are.reaches i j (omega arith) within);
        before = λ k below.
            elim (either_way i k) [
              | inl last ↦ (let same : k ≡ i = omega arith in rw same (omega arith))
              | inr earlier ↦ omega (arith, are.reaches k i earlier (omega arith))
            ];
      }

  -- counts that go past a step and add to at most one cost at least the next step
  pub next-least : (i j : ℕ) (counts : List ℕ) → i + 1 ≡ j → j < length found → length counts ≡ length l.modules → sum_by (λ n. n) counts ≤ 1 → (found_at found i).reach + 1 ≤ capacity_with l counts → (found_at found j).cost ≤ module_cost_with l counts
  next-least i j counts is within long lawful enough =
      let has = HasPick-counts l counts long lawful in
      let low : (found_at found i).reach + 1 ≤ top = omega (arith, are.needed i (omega arith)) in
      omega (arith, (are.least _ j low (next-first i j is within)).least has.pick has.is_pick (omega (arith, has.picked.reach)), has.picked.cost)

  -- where the last step ends below the top, no counts that add to at most one go past it
  pub none-past : (found_at found (length found - 1)).reach < top → (counts : List ℕ) → length counts ≡ length l.modules → sum_by (λ n. n) counts ≤ 1 → (found_at found (length found - 1)).reach + 1 ≤ capacity_with l counts → ⊥
  none-past low counts long lawful enough =
      let has = HasPick-counts l counts long lawful in
      let nowhere : NoneReaches found ((found_at found (length found - 1)).reach + 1) = λ i within.
      elim (either_way (length found - 1) i) [
        | inl last ↦ (let same : i ≡ length found - 1 = omega arith in rw same (omega arith))
        | inr earlier ↦ omega (arith, are.reaches i (length found - 1) earlier (omega (arith, some)))
      ] in
      omega (arith, (are.none ((found_at found (length found - 1)).reach + 1) (omega arith)).0 nowhere has.pick has.is_pick, has.picked.reach)

  -- each step past the pre-installed capacity, as it is kept, is of one module
  pub has-one : (i : ℕ) → i < length found → l.pre < (found_at found i).reach → IsOfOne l (kept_step (found_at found i))
  has-one i within past = of-one l (found_at found i).choice (found_at found i) refl (are.choice i within) past

  -- the counts of its choice attain a step
  attained : (i : ℕ) → i < length found → Attains AtMostOne l (found_at found i).reach (found_at found i).cost
  attained i within =
      let has = are.choice i within in
      let picked = ArePicked-counts l (found_at found i).choice has.is_pick in
      record {
        counts = counts_with l (found_at found i).choice;
        carries = record { count = picked.count; enough = omega (arith, picked.reach, has.reach); lawful = picked.lawful };
        attained = picked.cost ∙ has.cost;
      }

  long : length (map kept_step found) ≡ length found
  long = length-map found kept_step

  kept-at : (i : ℕ) → step_at (map kept_step found) i ≡ kept_step (found_at found i)
  kept-at i = map-get_or kept_step found i (record { reach = 0; cost = 0; choice = None })

  kept-last : last_of (map kept_step found) ≡ kept_step (found_at found (length found - 1))
  kept-last = kept-at (length (map kept_step found) - 1) ∙ ap (λ (n : ℕ). kept_step (found_at found (n - 1))) long

  in-order : ((m : ℕ) → m < length l.modules → (module_at l m).cost < MODULE_COST_BOUND) → AreInOrder (map kept_step found)
  in-order modules = record {
    some = omega (arith, long, some);
    rising = λ i j lt within. rw (kept-at i, kept-at j) (are.reaches i j lt (omega (arith, long, within)));
    dearer = λ i j lt within. rw (kept-at i, kept-at j) (are.costs i j lt (omega (arith, long, within)));
    cheap = λ i within. rw (kept-at i) (cheap modules i (omega (arith, long, within)));
  }

  are-steps : ((m : ℕ) → m < length l.modules → (module_at l m).cost < MODULE_COST_BOUND) → AreSteps AtMostOne top l (map kept_step found)
  are-steps modules = record {
    in_order = in-order modules;
    no_cost = rw (kept-at 0) first-cost;
    attained = λ i within. rw (kept-at i) (attained i (omega (arith, long, within)));
    short = λ i within. rw (kept-at i) (are.needed i (omega (arith, long, within)));
    next = λ i j counts is within carries.
        (let carries_i = rw (kept-at i) at carries in
        rw (kept-at j) (next-least i j counts is (omega (arith, long, within)) carries.count carries.lawful carries_i.enough));
  }

  are-chosen : AreChosen l (map kept_step found)
  are-chosen = record {
    pre = rw (kept-at 0) first-pre;
    one = λ i within past. (let past_i = rw (kept-at i) at past in rw (kept-at i) (has-one i (omega (arith, long, within)) past_i));
  }

  -- the steps as they are kept are all steps of the link
  pub AreAllSteps-kept : ((m : ℕ) → m < length l.modules → (module_at l m).cost < MODULE_COST_BOUND) → length l.modules ≤ MAX_MODULES → AreAllSteps AtMostOne top l (map kept_step found)
  AreAllSteps-kept modules few = record {
    are_steps = are-steps modules;
    made = are-chosen;
    within = omega (arith, long, are.few, length-choices l.modules, few);
    whole = λ low counts carries.
        (let low_last = rw kept-last at low in
        let carries_last = rw kept-last at carries in
        none-past low_last counts carries.count carries.lawful carries_last.enough);
  }
