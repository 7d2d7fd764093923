-- The least cost for each load grain among the ends of steps.
use Rattle.std.proofs.Common.{◌≡◌, ℕ, ◌+◌, ◌*◌, ◌<◌, ◌≤◌, ◌⊎◌, inl, inr, min, List, length, Option, Some, None, IfSome, ◌∙◌, arith}
use Rattle.link_steps.specs.declared.step.Step.{Step}
use Rattle.link_steps.specs.Steps.{step_at, AreInOrder, unit_at, IsUnitOf, IsLeastUnit}
use Rattle.std.proofs.Math.Nat.{mul-le-mul, div-le_self}
use Rattle.plan_base.specs.declared.limits.TheConstants.{MODULE_COST_BOUND}
use Rattle.link_steps.specs.declared.limits.TheConstants.{MAX_STEPS}
use Rattle.link_steps.proofs.Order.{before_or_last}

IsUnitOf-more : (part : ℕ) (steps : List Step) (top n unit : ℕ) → IsUnitOf part steps top n unit → IsUnitOf part steps top (n + 1) unit
IsUnitOf-more part steps top n unit h = record { place = h.place; within = omega (arith, h.within); positive = h.positive; is_unit = h.is_unit }

-- an end at load 0 is passed over
pub IsLeastUnit-skip : (part : ℕ) (steps : List Step) (top n : ℕ) (least : Option ℕ) → min (step_at steps n).reach top ≡ 0 → IsLeastUnit part steps top n least → IsLeastUnit part steps top (n + 1) least
IsLeastUnit-skip part steps top n None none h = λ i below. elim (before_or_last i n below) [ inl old ↦ h i old | inr new ↦ rw new none ]
IsLeastUnit-skip part steps top n (Some unit) none h = (
  IsUnitOf-more part steps top n unit h.0,
  λ i below positive. elim (before_or_last i n below) [ inl old ↦ h.1 i old positive | inr new ↦ absurd (let positive_here = rw new at positive in omega (arith, none)) ],
)

-- the smaller of the two is taken
pub IsLeastUnit-take : (part : ℕ) (steps : List Step) (top n : ℕ) (least : Option ℕ) (unit result : ℕ) → 0 < min (step_at steps n).reach top → unit ≡ unit_at part steps top n → IsLeastUnit part steps top n least
    → (result ≡ unit) ⊎ (least ≡ Some result) → result ≤ unit → IfSome least (λ other. result ≤ other) → IsLeastUnit part steps top (n + 1) (Some result)
IsLeastUnit-take part steps top n None unit result positive is h (inl same) le le_least = (
  record { place = n; within = omega arith; positive = positive; is_unit = same ∙ is },
  λ i below past. elim (before_or_last i n below) [ inl old ↦ absurd (omega (arith, h i old)) | inr new ↦ rw new (omega arith) ],
)
IsLeastUnit-take part steps top n None unit result positive is h (inr bad) le le_least = absurd (cc)
IsLeastUnit-take part steps top n (Some other) unit result positive is h (inl same) le le_least = (
  record { place = n; within = omega arith; positive = positive; is_unit = same ∙ is },
  λ i below past. elim (before_or_last i n below) [ inl old ↦ omega (arith, h.1 i old past) | inr new ↦ rw new (omega arith) ],
)
IsLeastUnit-take part steps top n (Some other) unit result positive is h (inr same) le le_least =
    let equal : other ≡ result = cc in (
      rw (← equal) (IsUnitOf-more part steps top n other h.0),
      λ i below past. elim (before_or_last i n below) [ inl old ↦ omega (arith, h.1 i old past) | inr new ↦ rw new (omega arith) ],
    )

-- the least unit is small
pub unit-within : (part : ℕ) (steps : List Step) (top : ℕ) (least : Option ℕ) → AreInOrder steps → length steps ≤ MAX_STEPS → part ≤ 1000 → IsLeastUnit part steps top (length steps) least
    → IfSome least (λ unit. unit ≤ 1000 * (MAX_STEPS * MODULE_COST_BOUND))
unit-within part steps top None in_order few small h = tt
unit-within part steps top (Some unit) in_order few small h =
    let place = h.0.place in
    let cheap : (step_at steps place).cost ≤ MAX_STEPS * MODULE_COST_BOUND = omega (arith, in_order.cheap place h.0.within, h.0.within) in
    let product : part * (step_at steps place).cost ≤ 1000 * (MAX_STEPS * MODULE_COST_BOUND) = mul-le-mul small cheap in
    let quotient = div-le_self (part * (step_at steps place).cost) (min (step_at steps place).reach top) in
    omega (arith, h.0.is_unit, product, quotient)
