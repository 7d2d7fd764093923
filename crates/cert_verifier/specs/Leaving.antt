-- Permitted arcs that leave a set of nodes.
use Rattle.std.specs.Prelude.{◌≡◌, false, ◌&&◌, Bool, not, List}
use Rattle.plan_base.specs.declared.ids.ArcId.{ArcId}
use Rattle.plan_base.specs.declared.ids.DemandId.{DemandId}
use Rattle.plan_base.specs.declared.parts.Parts.{Parts}
use Rattle.plan_base.specs.Arcs.{is_arc, tail_of, head_of}
use Rattle.arc_restrict.specs.Restrictions.{Forbidden}
use Rattle.proof_tree.specs.Evidence.{holds}

-- the arc exists, is permitted to the demand, and leaves the set
abbrev pub leads_out : Parts → Forbidden → DemandId → List Bool → ArcId → Bool
leads_out p r id reached a = is_arc p a && (not (r id.0 a) && (holds reached (tail_of p a) && not (holds reached (head_of p a))))

-- no permitted arc leaves the set
abbrev pub IsNoWayOut : Parts → Forbidden → DemandId → List Bool → Type 0
IsNoWayOut p r id reached = (a : ArcId) → leads_out p r id reached a ≡ false
