-- Paths of least weight among those that keep a demand's limit.
use Rattle.std.specs.Prelude.{ℕ, ◌≡◌, ◌≤◌, List, length, Option, Some, None}
use Rattle.plan_base.specs.declared.ids.ArcId.{ArcId}
use Rattle.plan_base.specs.declared.parts.Demand.{Demand}
use Rattle.plan_base.specs.declared.parts.Parts.{Parts}
use Rattle.plan_base.specs.Designs.{KeepsLimit}
use Rattle.least_path.specs.Paths.{Weights, weight_of, IsUsablePath}

-- a simple path of the demand, of usable arcs, within its limit
pub record IsKeptPath (p : Parts) (ws : Weights) (k : Demand) (arcs : List ArcId) : Type 0 where
  pub path : IsUsablePath p ws k.source k.target arcs
  pub keeps : KeepsLimit k.hops (length arcs)

-- such a path, of this weight, and no such path weighs less
pub record IsLeastKept (p : Parts) (ws : Weights) (k : Demand) (arcs : List ArcId) (weight : ℕ) : Type 0 where
  pub kept : IsKeptPath p ws k arcs
  pub weight_is : weight_of ws arcs ≡ weight
  pub least : (other : List ArcId) → IsKeptPath p ws k other → weight ≤ weight_of ws other

-- there is no such path
abbrev pub HasNoneKept : Parts → Weights → Demand → Type 0
HasNoneKept p ws k = (arcs : List ArcId) → IsKeptPath p ws k arcs → ⊥

-- no such path weighs less than the bound; without one, there is no such path
abbrev pub HasNoneKeptBelow : Parts → Weights → Demand → Option ℕ → Type 0
HasNoneKeptBelow p ws k None = HasNoneKept p ws k
HasNoneKeptBelow p ws k (Some bound) = (arcs : List ArcId) → IsKeptPath p ws k arcs → bound ≤ weight_of ws arcs
