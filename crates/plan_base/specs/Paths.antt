-- Simple paths of a demand.
use Rattle.std.specs.Prelude.{ℕ, zero, suc, ◌≡◌, ◌≢◌, ◌<◌, ◌≤◌, Bool, List, length, IsTrue, slice_index_or, ◌==◌}
use Rattle.std.specs.List.{list_any}
use Rattle.plan_base.specs.declared.ids.NodeId.{NodeId}
use Rattle.plan_base.specs.declared.ids.ArcId.{ArcId}
use Rattle.plan_base.specs.declared.parts.Demand.{Demand}
use Rattle.plan_base.specs.declared.parts.Parts.{Parts}
use Rattle.plan_base.specs.Arcs.{is_arc, tail_of, head_of, link_of, no_arc}
use Rattle.plan_base.specs.Places.{place_of}

-- the arc at a place of a list
abbrev pub arc_at : List ArcId → ℕ → ArcId
arc_at arcs i = slice_index_or arcs i no_arc

-- the number of the node that a walk from a node has reached after i arcs
abbrev pub node_at : Parts → NodeId → List ArcId → ℕ → ℕ
node_at p source arcs zero = source.0
node_at p source arcs (suc i) = (head_of p (arc_at arcs i)).0

-- The arcs go from the demand's source to its target, each from where the last one led, and meet no node twice.
pub record IsSimplePath (p : Parts) (k : Demand) (arcs : List ArcId) : Type 0 where
  pub are_arcs : (i : ℕ) → i < length arcs → IsTrue (is_arc p (arc_at arcs i))
  pub goes_on : (i : ℕ) → i < length arcs → (tail_of p (arc_at arcs i)).0 ≡ node_at p k.source arcs i
  pub no_node_twice : (i j : ℕ) → i < j → j ≤ length arcs → node_at p k.source arcs i ≢ node_at p k.source arcs j
  pub ends_at_target : node_at p k.source arcs (length arcs) ≡ k.target.0

-- an arc of the path has this number of its kind, as of its link or of its place
abbrev pub uses_by : (ArcId → ℕ) → ℕ → List ArcId → Bool
uses_by kind n arcs = list_any (λ a. kind a == n) arcs

-- an arc of the path is of this place
abbrev pub uses_place : Parts → ℕ → List ArcId → Bool
uses_place p q arcs = uses_by (place_of p) q arcs

-- the path goes along the link of this number, in either direction
abbrev pub uses : ℕ → List ArcId → Bool
uses e arcs = uses_by link_of e arcs
