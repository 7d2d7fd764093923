-- Ranges that lie within others, and the regions of children, which permit no more than that of their parent.
use Rattle.std.proofs.Common.{ℕ, ◌+◌, ◌*◌, ◌<◌, ◌≤◌, Bool, true, false, List, length, arith, if◌then◌else◌}
use Rattle.plan_base.specs.declared.ids.ArcId.{ArcId}
use Rattle.plan_base.specs.declared.ids.DemandId.{DemandId}
use Rattle.plan_base.specs.declared.parts.Parts.{Parts}
use Rattle.plan_base.specs.Places.{is_two_way}
use Rattle.plan_base.proofs.Bools.{or-false_both}
use Rattle.arc_restrict.specs.Restrictions.{Forbidden, with_forbidden, IsPermittedPath}
use Rattle.link_steps.specs.declared.range.LoadRange.{LoadRange}
use Rattle.link_steps.specs.Ranges.{no_range, range_at, range_there, range_back, ends_at, begins_at, with_range, IsIn}
use Rattle.proof_tree.specs.Regions.{Region, with_arcs, up_to, above, IsLoadSplit}
use Rattle.proof_tree.proofs.RangeLaws.{with_range-fits, split-inside}
use Rattle.branch_tree.specs.declared.node.Divider.TheVariants as divider
use Rattle.search_machine.specs.State.{Divider, left_limit, right_limit, narrowed}
use Rattle.search_machine.specs.Nodes.{IsSoundDivider}

-- Ranges

-- each load of the one range is a load of the other
pub record IsWithin (inner outer : LoadRange) : Type 0 where
  pub least : outer.least ≤ inner.least
  pub most : inner.most ≤ outer.most

-- so it is at each place
abbrev pub AreWithin : List LoadRange → List LoadRange → Type 0
AreWithin inner outer = (q : ℕ) → IsWithin (range_at inner q) (range_at outer q)

-- each range lies within itself
pub IsWithin-self : (range : LoadRange) → IsWithin range range
IsWithin-self range = record { least = omega arith; most = omega arith }

-- a load of a range is one of each range around it
pub IsIn-outer : (inner outer : LoadRange) (load : ℕ) → IsWithin inner outer → IsIn inner load → IsIn outer load
IsIn-outer inner outer load h is = record { enough = omega (arith, h.least, is.enough); few = omega (arith, h.most, is.few) }

-- a place that is given less of its range
pub with_range-within : (ranges : List LoadRange) (place : ℕ) (range : LoadRange) → place < length ranges → IsWithin range (range_at ranges place) → AreWithin (with_range ranges place range) ranges
with_range-within ranges place range inside within q =
    with_range-fits (λ n r. IsWithin r (range_at ranges n)) ranges place range q inside within (IsWithin-self (range_at ranges q))

-- a range that is made to end at a load below its most lies within the old one
pub ends_at-within : (range : LoadRange) (load : ℕ) → load < range.most → IsWithin (ends_at range load) range
ends_at-within range load below = record { least = omega arith; most = omega (arith, below) }

-- a range that is made to begin behind a load that is not below its least lies within the old one
pub begins_at-within : (range : LoadRange) (load : ℕ) → range.least ≤ load → IsWithin (begins_at range (load + 1)) range
begins_at-within range load above = record { least = omega (arith, above); most = omega arith }

-- the ranges of a link's places
pub there-within : (p : Parts) (inner outer : List LoadRange) (e : ℕ) → AreWithin inner outer → IsWithin (range_there p inner e) (range_there p outer e)
there-within p inner outer e h = h (if is_two_way p.orient then 2 * e else e)

-- where ranges lie within others, so do those of the way back of a link
pub back-within : (p : Parts) (inner outer : List LoadRange) (e : ℕ) → AreWithin inner outer → IsWithin (range_back p inner e) (range_back p outer e)
back-within p inner outer e h = by_cases (is_two_way p.orient)
  where
    by_cases : (b : Bool) → IsWithin (if b then range_at inner (2 * e + 1) else no_range) (if b then range_at outer (2 * e + 1) else no_range)
    by_cases true = h (2 * e + 1)
    by_cases false = IsWithin-self no_range

-- Regions

-- a region that permits no more paths and no more loads than another one
pub record IsInside (p : Parts) (inner outer : Region) : Type 0 where
  pub paths : (k : ℕ) (path : List ArcId) → IsPermittedPath p inner.forbidden k path → IsPermittedPath p outer.forbidden k path
  pub loads : AreWithin inner.ranges outer.ranges

-- a path that a child permits its parent permits
permitted_above : (p : Parts) (r : Forbidden) (id : DemandId) (arcs : List ArcId) (k : ℕ) (path : List ArcId) → IsPermittedPath p (with_forbidden r id arcs) k path → IsPermittedPath p r k path
permitted_above p r id arcs k path h = record { simple = h.simple; permitted = λ i d within. (or-false_both _ _ (h.permitted i d within)).0 }

with_arcs-inside : (p : Parts) (g : Region) (id : DemandId) (arcs : List ArcId) → IsInside p (with_arcs g id arcs) g
with_arcs-inside p g id arcs = record { paths = λ k path h. permitted_above p g.forbidden id arcs k path h; loads = λ q. IsWithin-self (range_at g.ranges q) }

up_to-inside : (p : Parts) (g : Region) (place load : ℕ) → IsLoadSplit p g.ranges place load → IsInside p (up_to g place load) g
up_to-inside p g place load split = record {
  paths = λ k path h. h;
  loads = with_range-within g.ranges place (ends_at (range_at g.ranges place) load) (split-inside p g.ranges place load split) (ends_at-within (range_at g.ranges place) load split.some_right);
}

above-inside : (p : Parts) (g : Region) (place load : ℕ) → IsLoadSplit p g.ranges place load → IsInside p (above g place load) g
above-inside p g place load split = record {
  paths = λ k path h. h;
  loads = with_range-within g.ranges place (begins_at (range_at g.ranges place) (load + 1)) (split-inside p g.ranges place load split) (begins_at-within (range_at g.ranges place) load split.some_left);
}

-- the children of a split
pub left-inside : (p : Parts) (g : Region) (by : Divider) → IsSoundDivider p g by → IsInside p (narrowed g (left_limit by)) g
left-inside p g (divider.Arcs d) h = with_arcs-inside p g d.demand d.left
left-inside p g (divider.Load d) h = up_to-inside p g d.place d.load h.is_split

-- the right child of a sound split permits no more paths and no more loads than its parent
pub right-inside : (p : Parts) (g : Region) (by : Divider) → IsSoundDivider p g by → IsInside p (narrowed g (right_limit by)) g
right-inside p g (divider.Arcs d) h = with_arcs-inside p g d.demand d.right
right-inside p g (divider.Load d) h = above-inside p g d.place d.load h.is_split
