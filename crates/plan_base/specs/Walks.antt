-- Pieces of the check of designs by walks. No public clause cites this module.
use Rattle.std.specs.Prelude.{ℕ, ◌≡◌, ◌<◌, not, ◌&&◌, List, length, take, Option, ◌==◌}
use Rattle.base_items.specs.Met.{Stamps, is_met}
use Rattle.plan_base.specs.declared.ids.NodeId.{NodeId}
use Rattle.plan_base.specs.declared.ids.ArcId.{ArcId}
use Rattle.plan_base.specs.declared.ids.DemandId.{DemandId}
use Rattle.plan_base.specs.declared.parts.Parts.{Parts}
use Rattle.plan_base.specs.declared.design_fault.DesignFault.{DesignFault}
use Rattle.plan_base.specs.declared.design_fault.DesignFault.TheVariants.{NotAPath, Repeats}
use Rattle.plan_base.specs.First.{◌or_else◌, when}
use Rattle.plan_base.specs.Arcs.{is_arc, tail_of, head_of}
use Rattle.plan_base.specs.Places.{place_of}
use Rattle.plan_base.specs.Paths.{arc_at, node_at}
use Rattle.plan_base.specs.DesignFaults.{has_met}

-- what is wrong with an arc where the walk stands at a node, and has met these nodes
unfoldable pub walk_fault : Parts → DemandId → Stamps → ℕ → ℕ → ArcId → Option DesignFault
walk_fault p id met here i a =
    when (not (is_arc p a && ((tail_of p a).0 == here))) (NotAPath id i)
    or_else when (is_met met (head_of p a).0) (Repeats id i)

-- the walk from the source along the first arcs stands at this node, and has met these
pub record IsWalk (p : Parts) (source : NodeId) (arcs : List ArcId) (i here : ℕ) (met : Stamps) : Type 0 where
  pub stands : here ≡ node_at p source arcs i
  pub stands_within : here < p.nodes
  pub has_met_nodes : (node : NodeId) → is_met met node.0 ≡ has_met p source (take i arcs) node

-- each arc's number of this kind, as of its link or of its place, is below n, and no two arcs have the same
pub record HasOnce (kind : ArcId → ℕ) (n : ℕ) (arcs : List ArcId) : Type 0 where
  pub within : (i : ℕ) → i < length arcs → kind (arc_at arcs i) < n
  pub once : (i j : ℕ) → i < length arcs → j < length arcs → kind (arc_at arcs i) ≡ kind (arc_at arcs j) → i ≡ j

-- no two arcs are of one place
abbrev pub HasPlacesOnce : Parts → ℕ → List ArcId → Type 0
HasPlacesOnce p n arcs = HasOnce (place_of p) n arcs
