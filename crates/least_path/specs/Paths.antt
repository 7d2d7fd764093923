-- Paths of least weight, where each arc has a weight or may not be used.
use Rattle.std.specs.Prelude.{Bool, true, false, ℕ, ◌≡◌, ◌<◌, ◌≤◌, ◌+◌, ◌*◌, List, length, Option, Some, None, IsTrue, IsSome, IfSome, slice_index, slice_index_or, sum_by, All}
use Rattle.std.specs.Option.{unwrap_or}
use Rattle.plan_base.specs.declared.ids.NodeId.{NodeId}
use Rattle.plan_base.specs.declared.ids.ArcId.{ArcId}
use Rattle.plan_base.specs.declared.parts.Demand.{Demand}
use Rattle.plan_base.specs.declared.parts.Parts.{Parts}
use Rattle.plan_base.specs.Arcs.{is_arc, tail_of, head_of}
use Rattle.plan_base.specs.Paths.{arc_at, IsSimplePath}
use Rattle.least_path.specs.declared.limits.TheConstants.{MAX_WEIGHT}
use Rattle.least_path.specs.declared.answer.Search.{Search}
use Rattle.least_path.specs.declared.answer.Search.TheVariants.{Path, NoPath}

-- one weight for each arc number; none where the arc may not be used
abbrev pub Weights : Type 0
Weights = List (Option ℕ)

-- the weight of an arc, 0 where it has none
abbrev pub weight_at : Weights → ArcId → ℕ
weight_at ws a = unwrap_or (slice_index_or ws a.0 None) 0

-- there are as many weights as arc numbers, and none is above the limit
pub record AreWeights (p : Parts) (ws : Weights) : Type 0 where
  pub count : length ws ≡ 2 * length p.links
  pub small : All (λ w. unwrap_or w 0 ≤ MAX_WEIGHT) ws

-- the arc exists and has a weight
pub record IsUsable (p : Parts) (ws : Weights) (a : ArcId) : Type 0 where
  pub is_an_arc : IsTrue (is_arc p a)
  pub weighted : IsSome (slice_index_or ws a.0 None)

-- the sum of the weights of a path's arcs
abbrev pub weight_of : Weights → List ArcId → ℕ
weight_of ws arcs = sum_by (λ a. weight_at ws a) arcs

-- a demand from one node to another, without load
abbrev pub from_to : NodeId → NodeId → Demand
from_to s t = record { source = s; target = t; load = 0; hops = None }

-- a simple path from the source to the target, of usable arcs
pub record IsUsablePath (p : Parts) (ws : Weights) (s t : NodeId) (arcs : List ArcId) : Type 0 where
  pub simple : IsSimplePath p (from_to s t) arcs
  pub usable : (i : ℕ) → i < length arcs → IsUsable p ws (arc_at arcs i)

-- a usable path of this weight, and no usable path weighs less
pub record IsLeastPath (p : Parts) (ws : Weights) (s t : NodeId) (arcs : List ArcId) (weight : ℕ) : Type 0 where
  pub path : IsUsablePath p ws s t arcs
  pub weight_is : weight_of ws arcs ≡ weight
  pub least : (other : List ArcId) → IsUsablePath p ws s t other → weight ≤ weight_of ws other

-- one potential for each node: 0 at the source, the length at the target, and no usable arc's head is above its tail by more than its weight
pub record ArePotentials (p : Parts) (ws : Weights) (s t : NodeId) (weight : ℕ) (potentials : List ℕ) : Type 0 where
  pub count : length potentials ≡ p.nodes
  pub at_source : slice_index potentials s.0 ≡ 0
  pub at_target : slice_index potentials t.0 ≡ weight
  pub along : (a : ArcId) → IsUsable p ws a → slice_index potentials (head_of p a).0 ≤ slice_index potentials (tail_of p a).0 + weight_at ws a

-- the node of this number is in the set
abbrev pub IsIn : List Bool → ℕ → Type 0
IsIn set v = slice_index_or set v false ≡ true

-- a set of nodes that holds the source and not the target, and that no usable arc leaves
pub record IsClosedSet (p : Parts) (ws : Weights) (s t : NodeId) (reached : List Bool) : Type 0 where
  pub count : length reached ≡ p.nodes
  pub has_source : IsIn reached s.0
  pub lacks_target : slice_index_or reached t.0 false ≡ false
  pub closed : (a : ArcId) → IsUsable p ws a → IsIn reached (tail_of p a).0 → IsIn reached (head_of p a).0

-- there is no usable path
abbrev pub HasNoUsablePath : Parts → Weights → NodeId → NodeId → Type 0
HasNoUsablePath p ws s t = (arcs : List ArcId) → IsUsablePath p ws s t arcs → ⊥

-- the number is below the limit, where there is one
abbrev pub IsBelow : Option ℕ → ℕ → Type 0
IsBelow limit n = IfSome limit (λ most. n < most)

-- no usable path weighs less than the limit; without one, there is no usable path
abbrev pub HasNoneBelow : Parts → Weights → NodeId → NodeId → Option ℕ → Type 0
HasNoneBelow p ws s t None = HasNoUsablePath p ws s t
HasNoneBelow p ws s t (Some limit) = (arcs : List ArcId) → IsUsablePath p ws s t arcs → limit ≤ weight_of ws arcs

-- a path is least and its potentials show it; no path means that there is none, and the set shows it
abbrev pub IsFound : Parts → Weights → NodeId → NodeId → Search → Type 0
IsFound p ws s t (Path path weight potentials) = IsLeastPath p ws s t path weight × ArePotentials p ws s t weight potentials
IsFound p ws s t (NoPath reached) = HasNoUsablePath p ws s t × IsClosedSet p ws s t reached
