-- What all costs are multiples of.
use Rattle.std.specs.Prelude.{ℕ, ◌≡◌, ◌<◌, ◌*◌, max, length}
use Rattle.plan_base.specs.declared.parts.Parts.{Parts}
use Rattle.plan_base.specs.Arcs.{link_at, demand_at}
use Rattle.plan_base.specs.Designs.{module_at}

-- a number is so many times another one
abbrev pub IsMultiple : ℕ → ℕ → Type 0
IsMultiple of n = (times : ℕ) × (times * of ≡ n)

-- it divides the cost of each module, and each routing cost times each load, in cost grains
pub record DividesCosts (p : Parts) (divisor : ℕ) : Type 0 where
  pub modules : (e m : ℕ) → e < length p.links → m < length (link_at p e).modules → IsMultiple divisor (module_at (link_at p e) m).cost
  pub routing : (e k : ℕ) → e < length p.links → k < length p.demands → IsMultiple divisor ((link_at p e).routing * (demand_at p k).load)

-- it divides all these, and whatever does divides it; 0 where all of them are 0
pub record IsGreatestDivisor (p : Parts) (divisor : ℕ) : Type 0 where
  pub divides : DividesCosts p divisor
  pub greatest : (other : ℕ) → DividesCosts p other → IsMultiple other divisor

-- the unit of costs, in cost grains: the greatest number that divides all these, or 1 where all of them are 0
pub record IsUnit (p : Parts) (unit : ℕ) : Type 0 where
  pub divisor : ℕ
  pub is_greatest : IsGreatestDivisor p divisor
  pub is_unit : unit ≡ max divisor 1
