-- How the steps of a link go on.
use Rattle.std.proofs.Common.{◌≡◌, ℕ, zero, suc, ◌+◌, ◌-◌, ◌<◌, ◌≤◌, ◌⊎◌, inl, inr, List, [], ◌∷◌, ◌++◌, length, slice_index, get_or, Some, None, sym, ap, ◌∙◌, arith}
use Rattle.std.proofs.Math.Seq.{get_or-append_seam}
use Rattle.std.proofs.lemmas.List.{length-append, get_or_append_left, length-replicate, get_or-replicate, get_or_default}
use Rattle.plan_base.specs.declared.parts.CountLaw.TheVariants.{Any}
use Rattle.plan_base.specs.declared.parts.Link.{Link}
use Rattle.plan_base.specs.declared.limits.TheConstants.{MODULE_COST_BOUND}
use Rattle.plan_base.specs.Designs.{module_at, capacity_with, module_cost_with}
use Rattle.link_steps.specs.declared.step.Step.{Step}
use Rattle.link_steps.specs.Costs.{CannotCarryOn}
use Rattle.link_steps.specs.Steps.{no_step, step_at, last_of, IsFirstStep, AddsOne, Attains, AreInOrder, AreSteps, AreGrown, AreOpenSteps, AreStarts, HasNoFree, Beats, IsNextStep}
use Rattle.link_steps.proofs.Order.{either_way}
use Rattle.plan_base.proofs.CountSums.{none_of_each}
use Rattle.link_steps.proofs.Counts.{Attains-more, first-attained, LacksOne-counts}
use Rattle.link_steps.proofs.Reached.{CarriesOn-less, first_reaching, cost-le, reach-le}

-- what goes past the last step costs at least the next one, and with no more cost it reaches no farther
pub record IsBehind (l : Link) (best : Step) (counts : List ℕ) : Type 0 where
  pub cost : best.cost ≤ module_cost_with l counts
  pub reach : module_cost_with l counts ≤ best.cost → capacity_with l counts ≤ best.reach

-- the last step reaches as far as what is pre-installed
pre-le : (total : ℕ) (l : Link) (steps : List Step) → AreSteps Any total l steps → AreGrown total l steps → l.pre ≤ (last_of steps).reach
pre-le total l steps are grown =
    let some : 0 < length steps = are.in_order.some in
    omega (arith, grown.first.pre, reach-le steps 0 (length steps - 1) are.in_order.rising (omega arith) (omega arith))

behind_within : (total : ℕ) (l : Link) (steps : List Step) (best : Step) → AreSteps Any total l steps → AreGrown total l steps → HasNoFree l → ((m : ℕ) → m < length l.modules → Beats l steps (Some best) m)
    → (n : ℕ) (counts : List ℕ) → capacity_with l counts < n → length counts ≡ length l.modules → (last_of steps).reach < capacity_with l counts → IsBehind l best counts
behind_within total l steps best are grown no_free beats zero counts below same past = absurd (omega arith)
behind_within total l steps best are grown no_free beats (suc n) counts below same past =
    let some : 0 < length steps = are.in_order.some in
    let pre_le : l.pre ≤ (last_of steps).reach = pre-le total l steps are grown in
    let less = LacksOne-counts l counts same (omega arith) in
    let m = less.number in
    let paid : 0 < (module_at l m).cost = no_free m less.within less.positive in
    let capacity_is = less.capacity in
    let cost_is = less.cost in
    let positive = less.positive in
    elim (either_way (capacity_with l less.rest) (last_of steps).reach) [
      | inr still ↦
          (let rest = behind_within total l steps best are grown no_free beats n less.rest (omega arith) less.count still in
          record { cost = omega (arith, rest.cost); reach = λ cheap. absurd (omega (arith, rest.cost, cheap)) })
      | inl reached ↦
          (let found = first_reaching steps (capacity_with l less.rest) (length steps - 1) are.in_order.rising (omega arith) reached in
          let j = found.0 in
          let first = found.1 in
          let here = first.here in
          let dear : (step_at steps j).cost ≤ module_cost_with l less.rest = cost-le total l steps _ j less.rest are first (record { count = less.count; enough = omega arith; lawful = tt }) in
          let no_worse = beats m less.within j first.within (omega arith) in
          record { cost = omega (arith, no_worse.cost); reach = λ cheap. omega (arith, no_worse.reach (omega (arith, cheap))) })
    ]

-- counts that go past the last step cost at least the best next step, and with no more cost reach no farther
pub next-behind : (total : ℕ) (l : Link) (steps : List Step) (best : Step) (counts : List ℕ) → AreSteps Any total l steps → AreGrown total l steps → HasNoFree l → ((m : ℕ) → m < length l.modules → Beats l steps (Some best) m)
    → length counts ≡ length l.modules → (last_of steps).reach < capacity_with l counts → IsBehind l best counts
next-behind total l steps best counts are grown no_free beats same past =
    behind_within total l steps best are grown no_free beats (suc (capacity_with l counts)) counts (omega arith) same past

-- the steps with one more
abbrev pub push : List Step → Step → List Step
push steps best = steps ++ best ∷ []

-- one more step makes the list of steps longer by one
pub length-push : (steps : List Step) (best : Step) → length (push steps best) ≡ length steps + 1
length-push steps best = length-append steps (best ∷ [])

old-push : (steps : List Step) (best : Step) (i : ℕ) → i < length steps → step_at (push steps best) i ≡ step_at steps i
old-push steps best i within = get_or_append_left steps (best ∷ []) no_step i within

new-push : (steps : List Step) (best : Step) (i : ℕ) → i ≡ length steps → step_at (push steps best) i ≡ best
new-push steps best i is = ap (step_at (push steps best)) is ∙ get_or-append_seam steps best [] no_step

-- the step that was added is the last one
pub last-push : (steps : List Step) (best : Step) → last_of (push steps best) ≡ best
last-push steps best = new-push steps best (length (push steps best) - 1) (omega (arith, length-push steps best))

old_or_new : (steps : List Step) (best : Step) (i : ℕ) → i < length (push steps best) → (i < length steps) ⊎ (i ≡ length steps)
old_or_new steps best i within = let long = length-push steps best in grind arith

AddsOne-push : (l : Link) (steps : List Step) (best : Step) (i : ℕ) (step : Step) → i ≤ length steps → AddsOne l steps i step → AddsOne l (push steps best) i step
AddsOne-push l steps best i step within adds =
    let same : step_at (push steps best) step.before ≡ step_at steps step.before = old-push steps best step.before (omega (arith, adds.before)) in
    record {
      before = adds.before;
      added = adds.added;
      reach = rw same adds.reach;
      cost = rw same adds.cost;
    }

module _ (total : ℕ) (l : Link) (steps : List Step) (best : Step)
    (open_steps : AreOpenSteps total l steps) (low : (last_of steps).reach < total) (next_step : IsNextStep l steps best)
    (beats : (m : ℕ) → m < length l.modules → Beats l steps (Some best) m) where
  are : AreSteps Any total l steps
  are = open_steps.are_steps

  behind : (counts : List ℕ) → length counts ≡ length l.modules → (last_of steps).reach < capacity_with l counts → IsBehind l best counts
  behind counts same past = next-behind total l steps best counts are open_steps.grown (open_steps.no_free low) beats same past

  -- the modules of the next step
  best-attained : Attains Any l best.reach best.cost
  best-attained =
      let adds = next_step.adds in
      rw (adds.reach, adds.cost) (Attains-more l _ _ best.added adds.added (are.attained best.before adds.before))

  dearer_than_last : (last_of steps).cost < best.cost
  dearer_than_last =
      let farther = next_step.farther in
      let cost_of_counts = best-attained.attained in
      let more = open_steps.farthest low best-attained.counts (CarriesOn-less l _ best.reach best-attained.counts (omega arith) best-attained.carries) in
      omega arith

  cost_le_last : (i : ℕ) → i < length steps → (step_at steps i).cost ≤ (last_of steps).cost
  cost_le_last i within =
      elim (either_way (length steps - 1) i) [
        | inl ge ↦ (let same : i ≡ length steps - 1 = omega arith in rw same (omega arith))
        | inr lt ↦ omega (arith, are.in_order.dearer i (length steps - 1) lt (omega arith))
      ]

  in_order-push : ((m : ℕ) → m < length l.modules → (module_at l m).cost < MODULE_COST_BOUND) → AreInOrder (push steps best)
  in_order-push cheap_modules =
      let long = length-push steps best in
      let farther = next_step.farther in
      let dearer = dearer_than_last in
      record {
        some = omega arith;
        rising = λ i j lt within.
            (let old_i = old-push steps best i (omega arith) in
            elim (old_or_new steps best j within) [
              | inl old ↦ (let old_j = old-push steps best j old in rw (old_i, old_j) (are.in_order.rising i j lt old))
              | inr new ↦ (let new_j = new-push steps best j new in rw (old_i, new_j) (omega (arith, reach-le steps i (length steps - 1) are.in_order.rising (omega arith) (omega arith))))
            ]);
        dearer = λ i j lt within.
            (let old_i = old-push steps best i (omega arith) in
            elim (old_or_new steps best j within) [
              | inl old ↦ (let old_j = old-push steps best j old in rw (old_i, old_j) (are.in_order.dearer i j lt old))
              | inr new ↦ (let new_j = new-push steps best j new in rw (old_i, new_j) (omega (arith, cost_le_last i (omega arith))))
            ]);
        cheap = λ i within.
            elim (old_or_new steps best i within) [
              | inl old ↦ (let old_i = old-push steps best i old in rw old_i (are.in_order.cheap i old))
              | inr new ↦
                  (let new_i = new-push steps best i new in
                  let adds = next_step.adds in
                  let cost_is = adds.cost in
                  let before = adds.before in
                  rw new_i (omega (arith, are.in_order.cheap best.before adds.before, cheap_modules best.added adds.added)))
            ];
      }

  AreSteps-push : ((m : ℕ) → m < length l.modules → (module_at l m).cost < MODULE_COST_BOUND) → AreSteps Any total l (push steps best)
  AreSteps-push cheap_modules =
      let long = length-push steps best in
      let some = are.in_order.some in
      record {
        in_order = in_order-push cheap_modules;
        no_cost = rw (old-push steps best 0 (omega arith)) are.no_cost;
        attained = λ i within.
            elim (old_or_new steps best i within) [
              | inl old ↦ rw (old-push steps best i old) (are.attained i old)
              | inr new ↦ rw (new-push steps best i new) best-attained
            ];
        short = λ i within.
            (let old_i = old-push steps best i (omega arith) in
            elim (either_way (length steps) (i + 1)) [
              | inl last ↦ (let is : i ≡ length steps - 1 = omega arith in rw old_i (rw is low))
              | inr earlier ↦ rw old_i (are.short i earlier)
            ]);
        next = λ i j counts is within carries.
            (let old_i = old-push steps best i (omega arith) in
            let carries_i = rw old_i at carries in
            elim (old_or_new steps best j within) [
              | inl old ↦ (let old_j = old-push steps best j old in rw old_j (are.next i j counts is old carries_i))
              | inr new ↦
                  (let new_j = new-push steps best j new in
                  let last : i ≡ length steps - 1 = omega arith in
                  let enough = rw last at carries_i.enough in
                  rw new_j (behind counts carries.count (omega (arith, enough))).cost)
            ]);
      }

  AreGrown-push : AreGrown total l (push steps best)
  AreGrown-push = record {
    first = rw (old-push steps best 0 are.in_order.some) open_steps.grown.first;
    adds = λ i positive within.
        elim (old_or_new steps best i within) [
          | inl old ↦ (let old_i = old-push steps best i old in rw old_i (AddsOne-push l steps best i (step_at steps i) (omega arith) (open_steps.grown.adds i positive old)))
          | inr new ↦ (let new_i = new-push steps best i new in rw (new_i, new) (AddsOne-push l steps best (length steps) best (omega arith) next_step.adds))
        ];
  }

  -- steps that may go on may still go on after the best next step is added
  pub AreOpenSteps-push : ((m : ℕ) → m < length l.modules → (module_at l m).cost < MODULE_COST_BOUND) → AreOpenSteps total l (push steps best)
  AreOpenSteps-push cheap_modules =
      record {
        are_steps = AreSteps-push cheap_modules;
        grown = AreGrown-push;
        farthest = λ _ counts carries.
            (let carries_best = rw (last-push steps best) at carries in
            let past = carries_best.enough in
            let farther = next_step.farther in
            let is_behind = behind counts carries.count (omega arith) in
            rw (last-push steps best) (elim (either_way (module_cost_with l counts) best.cost) [
              | inl cheap ↦ absurd (omega (arith, is_behind.reach cheap))
              | inr dear ↦ dear
            ]));
        no_free = λ _. open_steps.no_free low;
      }

-- a first step alone
pub AreOpenSteps-first : (total : ℕ) (l : Link) (first : Step) → IsFirstStep total l first → (first.reach < total → HasNoFree l) → AreOpenSteps total l (first ∷ [])
AreOpenSteps-first total l first is_first no_free =
    record {
      are_steps = record {
        in_order = record {
          some = omega arith;
          rising = λ i j lt within. absurd (omega arith);
          dearer = λ i j lt within. absurd (omega arith);
          cheap = λ i within. (let same : i ≡ 0 = omega arith in rw same (omega (arith, is_first.no_cost)));
        };
        no_cost = is_first.no_cost;
        attained = λ i within. (let same : i ≡ 0 = omega arith in rw same (first-attained total l first is_first));
        short = λ i within. absurd (omega arith);
        next = λ i j counts is within. absurd (omega arith);
      };
      grown = record { first = is_first; adds = λ i positive within. absurd (omega arith) };
      farthest = λ low counts carries.
          (let less = LacksOne-counts l counts carries.count (omega (arith, is_first.pre, carries.enough)) in
          omega (arith, is_first.no_cost, no_free low less.number less.within less.positive, less.cost));
      no_free = no_free;
    }

-- where no module goes past the last step, nothing does
pub whole-none : (total : ℕ) (l : Link) (steps : List Step) → AreSteps Any total l steps → AreGrown total l steps → ((m : ℕ) → m < length l.modules → Beats l steps None m) → CannotCarryOn Any l ((last_of steps).reach + 1)
whole-none total l steps are grown beats counts carries =
    let some = are.in_order.some in
    let less = LacksOne-counts l counts carries.count (omega (arith, pre-le total l steps are grown, carries.enough)) in
    omega (arith, less.positive, beats less.number less.within (length steps - 1) (omega arith))

-- the places stay right as the steps go on
pub AreStarts-push : (l : Link) (steps : List Step) (best : Step) (starts : List ℕ) → IsNextStep l steps best → AreStarts l steps starts → AreStarts l (push steps best) starts
AreStarts-push l steps best starts next_step h =
    let long = length-push steps best in
    let farther = next_step.farther in
    record {
      count = h.count;
      within = λ m below. omega (arith, h.within m below);
      passed = λ m below j before.
          (let old_j = old-push steps best j (omega (arith, h.within m below)) in
          rw (last-push steps best, old_j) (omega (arith, h.passed m below j before)));
    }

-- places that are all 0 are right for the modules
pub AreStarts-none : (l : Link) (steps : List Step) → AreStarts l steps (none_of_each l)
AreStarts-none l steps =
    let long : length (none_of_each l) ≡ length l.modules = length-replicate (length l.modules) 0 in
    let none : (m : ℕ) → m < length l.modules → slice_index (none_of_each l) m ≡ 0 = λ m below. get_or-replicate {A = ℕ} (length l.modules) m 0 0 below in
    record {
      count = long;
      within = λ m below. omega (arith, none m (omega arith));
      passed = λ m below j before. absurd (omega (arith, none m (omega arith)));
    }

-- the last step, as it is read
pub last-item : (steps : List Step) (i : ℕ) (x : Step) → 0 < length steps → i + 1 ≡ length steps → x ≡ get_or steps i x → last_of steps ≡ x
last-item steps i x some is item =
    let at : i ≡ length steps - 1 = omega arith in
    ap (step_at steps) (sym at) ∙ get_or_default steps i no_step x (omega arith) ∙ sym item
