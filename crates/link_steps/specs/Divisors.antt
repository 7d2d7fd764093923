-- Common divisors, as the unit of costs is made of them. No public contract cites it.
use Rattle.std.specs.Prelude.{ℕ, ◌<◌, ◌*◌, length}
use Rattle.plan_base.specs.declared.parts.Link.{Link}
use Rattle.plan_base.specs.declared.parts.Parts.{Parts}
use Rattle.plan_base.specs.Arcs.{link_at}
use Rattle.plan_base.specs.Designs.{module_at}
use Rattle.link_steps.specs.Unit.{IsMultiple}

-- it divides both numbers, and whatever divides so many times each divides so many times it
pub record IsCommonDivisor (a b divisor : ℕ) : Type 0 where
  pub first : IsMultiple divisor a
  pub second : IsMultiple divisor b
  pub greatest : (other times : ℕ) → IsMultiple other (a * times) → IsMultiple other (b * times) → IsMultiple other (divisor * times)

-- it divides the numbers before a count, and whatever divides so many times each divides so many times it
pub record IsDivisorBefore (number : ℕ → ℕ) (count divisor : ℕ) : Type 0 where
  pub each : (i : ℕ) → i < count → IsMultiple divisor (number i)
  pub greatest : (other times : ℕ) → ((i : ℕ) → i < count → IsMultiple other (number i * times)) → IsMultiple other (divisor * times)

-- it divides a number and the costs of a link's modules, and whatever divides all these divides it
pub record DividesWith (l : Link) (number divisor : ℕ) : Type 0 where
  pub old : IsMultiple divisor number
  pub modules : (m : ℕ) → m < length l.modules → IsMultiple divisor (module_at l m).cost
  pub greatest : (other : ℕ) → IsMultiple other number → ((m : ℕ) → m < length l.modules → IsMultiple other (module_at l m).cost) → IsMultiple other divisor

-- it divides the cost of each module of the links before a count
abbrev pub DividesModules : Parts → ℕ → ℕ → Type 0
DividesModules p count divisor = (e m : ℕ) → e < count → m < length (link_at p e).modules → IsMultiple divisor (module_at (link_at p e) m).cost

-- it does, and whatever does divides it
pub record IsModuleDivisor (p : Parts) (count divisor : ℕ) : Type 0 where
  pub divides : DividesModules p count divisor
  pub greatest : (other : ℕ) → DividesModules p count other → IsMultiple other divisor
