-- Regions: what is forbidden to the demands, and how much load each place may carry.
use Rattle.std.specs.Prelude.{ℕ, ◌<◌, ◌≤◌, ◌+◌, List}
use Rattle.plan_base.specs.declared.ids.ArcId.{ArcId}
use Rattle.plan_base.specs.declared.ids.DemandId.{DemandId}
use Rattle.plan_base.specs.declared.parts.Parts.{Parts}
use Rattle.plan_base.specs.declared.path.Design.{Design}
use Rattle.plan_base.specs.Places.{places, there_of, back_of}
use Rattle.plan_base.specs.Designs.{load_at}
use Rattle.link_steps.specs.declared.range.LoadRange.{LoadRange}
use Rattle.link_steps.specs.Ranges.{range_at, range_there, range_back, whole_ranges, with_range, ends_at, begins_at, IsIn}
use Rattle.arc_restrict.specs.Restrictions.{Forbidden, none_forbidden, with_forbidden, LiesIn}

-- what is forbidden, and the range of each place
pub record Region : Type 0 where
  pub forbidden : Forbidden
  pub ranges : List LoadRange

-- nothing is forbidden, and each place may carry any load up to the top load of its link
abbrev pub whole : Parts → Region
whole p = record { forbidden = none_forbidden; ranges = whole_ranges p }

-- the region that also forbids these arcs to one demand
abbrev pub with_arcs : Region → DemandId → List ArcId → Region
with_arcs g id arcs = record g { forbidden = with_forbidden g.forbidden id arcs }

-- the region where the place carries at most this load
abbrev pub up_to : Region → ℕ → ℕ → Region
up_to g place load = record g { ranges = with_range g.ranges place (ends_at (range_at g.ranges place) load) }

-- the region where the place carries more than this load
abbrev pub above : Region → ℕ → ℕ → Region
above g place load = record g { ranges = with_range g.ranges place (begins_at (range_at g.ranges place) (load + 1)) }

-- the loads of the places of a link are in their ranges
pub record AreInRange (p : Parts) (ranges : List LoadRange) (d : Design) (e : ℕ) : Type 0 where
  pub there : IsIn (range_there p ranges e) (there_of p (load_at p d) e)
  pub back : IsIn (range_back p ranges e) (back_of p (load_at p d) e)

-- all paths of the design are permitted, and all loads of places are in their ranges
pub record LiesWithin (p : Parts) (d : Design) (g : Region) : Type 0 where
  pub paths : LiesIn p d g.forbidden
  pub loads : (q : ℕ) → q < places p → IsIn (range_at g.ranges q) (load_at p d q)

-- the range of the place has loads up to this one, and loads above it
pub record IsLoadSplit (p : Parts) (ranges : List LoadRange) (place load : ℕ) : Type 0 where
  pub is_place : place < places p
  pub some_left : (range_at ranges place).least ≤ load
  pub some_right : load < (range_at ranges place).most
