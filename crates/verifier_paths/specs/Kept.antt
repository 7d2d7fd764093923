-- How the restriction of a place in a tree is kept: for each demand a row of marks, one for each arc.
use Rattle.std.specs.Prelude.{ℕ, ◌≡◌, ◌<◌, ◌≤◌, ◌*◌, ◌+◌, ◌==◌, ◌&&◌, Bool, false, not, List, length, slice_index_or, nat_lt}
use Rattle.plan_base.specs.declared.ids.ArcId.{ArcId}
use Rattle.plan_base.specs.declared.ids.DemandId.{DemandId}
use Rattle.plan_base.specs.declared.parts.Parts.{Parts}
use Rattle.plan_base.specs.declared.limits.TheConstants.{MAX_DEMANDS, MAX_LINKS}
use Rattle.arc_restrict.specs.Restrictions.{Forbidden, is_among}

-- how many demands and arcs there are, and the marks of the rows, one row after the other
pub record Marks : Type 0 where
  pub demands : ℕ
  pub arcs : ℕ
  pub marks : List Bool

-- what the marks forbid
unfoldable pub forbidden_by : Marks → Forbidden
forbidden_by rows k a = nat_lt k rows.demands && (nat_lt a.0 rows.arcs && slice_index_or rows.marks (k * rows.arcs + a.0) false)

-- a row for each demand of the instance, and a mark for each number of an arc
pub record HasRows (p : Parts) (rows : Marks) : Type 0 where
  pub demands : rows.demands ≡ length p.demands
  pub arcs : rows.arcs ≡ 2 * length p.links

-- the rows that their counts ask for
pub record AreKept (demands arcs : ℕ) (marks : List Bool) : Type 0 where
  pub few_demands : demands ≤ MAX_DEMANDS
  pub few_arcs : arcs ≤ 2 * MAX_LINKS
  pub whole : length marks ≡ demands * arcs

-- none of so many marks is set, from this place on
abbrev pub AreClear : List Bool → ℕ → ℕ → Type 0
AreClear marks start count = (i : ℕ) → i < count → slice_index_or marks (start + i) false ≡ false

-- no arc is forbidden to the demand
abbrev pub IsUnrestricted : Forbidden → ℕ → Type 0
IsUnrestricted r k = (a : ArcId) → r k a ≡ false

-- the restriction that does not forbid these arcs to one demand
abbrev pub without_forbidden : Forbidden → DemandId → List ArcId → Forbidden
without_forbidden r id arcs k a = r k a && not (k == id.0 && is_among arcs a)
