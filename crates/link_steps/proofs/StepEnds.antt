-- Where the steps of a link end.
use Rattle.std.proofs.Common.{◌≡◌, ℕ, ◌+◌, ◌-◌, ◌<◌, ◌≤◌, inl, inr, List, length, arith}
use Rattle.plan_base.specs.declared.parts.Parts.{Parts}
use Rattle.plan_base.specs.Arcs.{link_at}
use Rattle.plan_base.specs.Facts.{total_load}
use Rattle.link_steps.specs.declared.step.Step.{Step}
use Rattle.link_steps.specs.Costs.{IsStepEnd, IsStepEndBelow, IsFirstStepEnd, EndsNoStep}
use Rattle.link_steps.specs.Steps.{step_at, AreAllSteps}
use Rattle.link_steps.proofs.Order.{either_way}
use Rattle.link_steps.proofs.Reached.{IsFirstReaching, reach-le, first-least, least-unique}
use Rattle.link_steps.proofs.Counted.{carried-reached}

module _ (p : Parts) (e : ℕ) (steps : List Step) (are : AreAllSteps p.law (total_load p) (link_at p e) steps) where
  -- a step below the total load ends at its reach
  reach-end : (i : ℕ) → i < length steps → (step_at steps i).reach < total_load p → IsStepEnd p e (step_at steps i).reach
  reach-end i within below =
      let here : IsFirstReaching steps (step_at steps i).reach i = record { within = within; here = omega arith; before = λ j before. are.are_steps.in_order.rising j i before within } in
      record {
        cost = (step_at steps i).cost;
        is_least = first-least (total_load p) (link_at p e) steps _ i are.are_steps here;
        next = λ more is_least.
            elim (either_way (length steps) (i + 1)) [
              | inr later ↦
                  (let next : IsFirstReaching steps ((step_at steps i).reach + 1) (i + 1) = record {
                    within = later;
                    here = omega (arith, are.are_steps.in_order.rising i (i + 1) (omega arith) later);
                    before = λ j before. omega (arith, reach-le steps j i are.are_steps.in_order.rising (omega arith) within);
                  } in
                  omega (arith, least-unique (link_at p e) _ _ _ is_least (first-least (total_load p) (link_at p e) steps _ (i + 1) are.are_steps next), are.are_steps.in_order.dearer i (i + 1) (omega arith) later))
              | inl last ↦
                  (let same : length steps - 1 ≡ i = omega arith in
                  absurd (are.whole (rw same below) is_least.counts (rw same is_least.carries)))
            ];
      }

  -- where a step ends below the total load, the first step that reaches the load has it as its reach
  end-reach : (load : ℕ) → load ≤ total_load p → IsStepEnd p e load → (i : ℕ) × (i < length steps) × ((step_at steps i).reach ≡ load)
  end-reach load few is_end =
      let found = carried-reached (total_load p) (link_at p e) steps load is_end.is_least.counts are few is_end.is_least.carries in
      let i = found.0 in
      let first = found.1 in
      elim (either_way (step_at steps i).reach load) [
        | inl le ↦ (i, first.within, omega (arith, first.here, le))
        | inr lt ↦
            (let next : IsFirstReaching steps (load + 1) i = record { within = first.within; here = omega arith; before = λ j before. omega (arith, first.before j before) } in
            let next_least = first-least (total_load p) (link_at p e) steps (load + 1) i are.are_steps next in
            let same = least-unique (link_at p e) load _ _ is_end.is_least (first-least (total_load p) (link_at p e) steps load i are.are_steps first) in
            absurd (omega (arith, is_end.next (step_at steps i).cost next_least, same)))
      ]

  -- the step before the first one that reaches a load ends below it, and none later does
  pub IsStepEndBelow-before : (load place : ℕ) → load ≤ total_load p → 0 < place → place ≤ length steps → ((j : ℕ) → j < place → (step_at steps j).reach < load) → (place < length steps → load ≤ (step_at steps place).reach)
      → IsStepEndBelow p e load (step_at steps (place - 1)).reach
  IsStepEndBelow-before load place few some within before here =
      let below = before (place - 1) (omega arith) in
      record {
        is_end = reach-end (place - 1) (omega arith) (omega (arith, below));
        below = below;
        greatest = λ other is_end lower.
            (let found = end-reach other (omega arith) is_end in
            elim (either_way found.0 (place - 1)) [
              | inl le ↦ omega (arith, reach-le steps found.0 (place - 1) are.are_steps.in_order.rising le (omega arith), found.2)
              | inr lt ↦
                  (let at_place = here (omega (arith, lt, found.1)) in
                  let later = reach-le steps place found.0 are.are_steps.in_order.rising (omega arith) found.1 in
                  absurd (omega (arith, at_place, later, found.2)))
            ]);
      }

  -- no step ends between a load and the reach of the first step that reaches it, or where none does
  pub EndsNoStep-before : (from to place : ℕ) → to ≤ total_load p → ((j : ℕ) → j < place → (step_at steps j).reach < from) → (place < length steps → to ≤ (step_at steps place).reach) → EndsNoStep p e from to
  EndsNoStep-before from to place few before past = λ other enough lower is_end.
      (let found = end-reach other (omega arith) is_end in
      elim (either_way place found.0) [
        | inr lt ↦ omega (arith, before found.0 lt, found.2)
        | inl le ↦
            (let at_place = past (omega (arith, le, found.1)) in
            omega (arith, at_place, reach-le steps place found.0 are.are_steps.in_order.rising le found.1, found.2))
      ])

  -- the first step that reaches a load ends first from there on
  pub IsFirstStepEnd-reach : (from to place : ℕ) → to ≤ total_load p → place < length steps → ((j : ℕ) → j < place → (step_at steps j).reach < from) → from ≤ (step_at steps place).reach → (step_at steps place).reach < to
      → IsFirstStepEnd p e from to (step_at steps place).reach
  IsFirstStepEnd-reach from to place few within before here lower = record {
    is_end = reach-end place within (omega arith);
    enough = here;
    below = lower;
    first = EndsNoStep-before from (step_at steps place).reach place (omega arith) before (λ inside. omega arith);
  }
