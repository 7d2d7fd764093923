-- Paths of least weight among those of at most so many arcs, where each arc has a weight or may not be used.
use Rattle.std.specs.Prelude.{ℕ, ◌≡◌, ◌≤◌, List, length}
use Rattle.plan_base.specs.declared.ids.NodeId.{NodeId}
use Rattle.plan_base.specs.declared.ids.ArcId.{ArcId}
use Rattle.plan_base.specs.declared.parts.Parts.{Parts}
use Rattle.least_path.specs.Paths.{Weights, weight_of, IsUsablePath}

-- a simple path from the source to the target, of usable arcs and at most so many
pub record IsPathWithin (p : Parts) (ws : Weights) (s t : NodeId) (hops : ℕ) (arcs : List ArcId) : Type 0 where
  pub path : IsUsablePath p ws s t arcs
  pub short : length arcs ≤ hops

-- such a path, of this weight, and no such path weighs less
pub record IsLeastWithin (p : Parts) (ws : Weights) (s t : NodeId) (hops : ℕ) (arcs : List ArcId) (weight : ℕ) : Type 0 where
  pub within : IsPathWithin p ws s t hops arcs
  pub weight_is : weight_of ws arcs ≡ weight
  pub least : (other : List ArcId) → IsPathWithin p ws s t hops other → weight ≤ weight_of ws other

-- there is no such path
abbrev pub HasNoneWithin : Parts → Weights → NodeId → NodeId → ℕ → Type 0
HasNoneWithin p ws s t hops = (arcs : List ArcId) → IsPathWithin p ws s t hops arcs → ⊥
