-- Which arcs a search may take.
use Rattle.std.specs.Prelude.{ℕ, Bool, false, not, ◌&&◌, ◌==◌, Option, Some, None}
use Rattle.plan_base.specs.declared.ids.ArcId.{ArcId}
use Rattle.plan_base.specs.declared.parts.Parts.{Parts}
use Rattle.plan_base.specs.Arcs.{is_arc}
use Rattle.arc_restrict.specs.Restrictions.{Forbidden}

-- the arc is the one that is left out
abbrev pub is_left_out : Option ArcId → ArcId → Bool
is_left_out None a = false
is_left_out (Some b) a = b.0 == a.0

-- the arc exists, is permitted to the demand, and is not left out
unfoldable pub may_take : Parts → Forbidden → ℕ → Option ArcId → ArcId → Bool
may_take p r k out a = is_arc p a && (not (r k a) && not (is_left_out out a))
