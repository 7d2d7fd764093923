-- Paths that searches find are simple paths of the demand.
use Rattle.std.proofs.Common.{ℕ, List}
use Rattle.plan_base.specs.declared.ids.ArcId.{ArcId}
use Rattle.plan_base.specs.declared.parts.Demand.{Demand}
use Rattle.plan_base.specs.declared.parts.Parts.{Parts}
use Rattle.plan_base.specs.Paths.{IsSimplePath}
use Rattle.least_path.specs.Paths.{Weights, from_to, IsLeastPath}
use Rattle.limited_path.specs.Within.{IsLeastWithin}

-- a simple path from the demand's source to its target is one of the demand
simple_of : (p : Parts) (k : Demand) (arcs : List ArcId) → IsSimplePath p (from_to k.source k.target) arcs → IsSimplePath p k arcs
simple_of p k arcs is = record { are_arcs = is.are_arcs; goes_on = is.goes_on; no_node_twice = is.no_node_twice; ends_at_target = is.ends_at_target }

-- so is a least path
pub least_simple : (p : Parts) (ws : Weights) (k : Demand) (arcs : List ArcId) (weight : ℕ) → IsLeastPath p ws k.source k.target arcs weight → IsSimplePath p k arcs
least_simple p ws k arcs weight is = simple_of p k arcs is.path.simple

-- and a least one of at most so many arcs
pub least_within_simple : (p : Parts) (ws : Weights) (k : Demand) (hops : ℕ) (arcs : List ArcId) (weight : ℕ) → IsLeastWithin p ws k.source k.target hops arcs weight → IsSimplePath p k arcs
least_within_simple p ws k hops arcs weight is = simple_of p k arcs is.within.path.simple
