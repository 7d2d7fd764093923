-- How deep the tree may go: each split of arcs forbids at least one more arc in each child, and leaves one; each split of
-- loads leaves each child fewer loads at which its range may be divided.
use Rattle.std.specs.Prelude.{ℕ, ◌≡◌, ◌<◌, ◌+◌, ◌-◌, ◌*◌, not, ◌&&◌, ◌==◌, List, length, slice_index, if◌then◌else◌, nat_lt, nat_le}
use Rattle.plan_base.specs.declared.parts.Parts.{Parts}
use Rattle.plan_base.specs.Sums.{sum_below}
use Rattle.plan_base.specs.Arcs.{is_arc, tail_of, link_at, demand_at}
use Rattle.plan_base.specs.Facts.{top_load}
use Rattle.plan_base.specs.Places.{places, link_of_place}
use Rattle.link_steps.specs.declared.range.LoadRange.{LoadRange}
use Rattle.link_steps.specs.Costs.{IsStepEnd}
use Rattle.link_steps.specs.Ranges.{range_at}
use Rattle.arc_restrict.specs.Restrictions.{Forbidden}
use Rattle.proof_tree.specs.Regions.{Region, whole}
use Rattle.path_pricing.specs.Faults.{arc_id}

-- 1 for an arc that leaves the node and is not forbidden to the demand
abbrev pub way_by : Parts → Forbidden → ℕ → ℕ → ℕ → ℕ
way_by p r k node n = if is_arc p (arc_id n) && ((tail_of p (arc_id n)).0 == node) && not (r k (arc_id n)) then 1 else 0

-- how many such arcs there are
unfoldable pub ways_at : Parts → Forbidden → ℕ → ℕ → ℕ
ways_at p r k node = sum_below (way_by p r k node) (2 * length p.links)

-- how many of them more than one; none at the demand's target
unfoldable pub choices_at : Parts → Forbidden → ℕ → ℕ → ℕ
choices_at p r k node = if node == (demand_at p k).target.0 then 0 else ways_at p r k node - 1

-- the choices that a restriction leaves, over all demands and nodes
abbrev pub choices_of : Parts → Forbidden → ℕ
choices_of p r = sum_below (λ k. sum_below (choices_at p r k) p.nodes) (length p.demands)

-- 1 for a load where the range may be divided
abbrev pub point_by : LoadRange → ℕ → ℕ
point_by range load = if nat_le range.least load && nat_lt load range.most then 1 else 0

-- how many of these loads are so
abbrev pub points_in : List ℕ → LoadRange → ℕ
points_in loads range = sum_below (λ i. point_by range (slice_index loads i)) (length loads)

-- the loads at which steps of a link end, below this load, each once
pub record AreStepEndsBelow (p : Parts) (e top : ℕ) (loads : List ℕ) : Type 0 where
  pub rising : (i j : ℕ) → i < j → j < length loads → slice_index loads i < slice_index loads j
  pub each : (i : ℕ) → i < length loads → IsStepEnd p e (slice_index loads i) × (slice_index loads i < top)
  pub all : (load : ℕ) → load < top → IsStepEnd p e load → (i : ℕ) × (i < length loads) × (slice_index loads i ≡ load)

-- below the top load of the link
abbrev pub AreStepEnds : Parts → ℕ → List ℕ → Type 0
AreStepEnds p e loads = AreStepEndsBelow p e (top_load p (link_at p e)) loads

-- the same of each link
abbrev pub AreAllEnds : Parts → (ℕ → List ℕ) → Type 0
AreAllEnds p ends = (e : ℕ) → e < length p.links → AreStepEnds p e (ends e)

-- how often the ranges may still be divided, over all places
abbrev pub points_of : Parts → (ℕ → List ℕ) → List LoadRange → ℕ
points_of p ends ranges = sum_below (λ q. points_in (ends (link_of_place p q)) (range_at ranges q)) (places p)

-- the depth that is left below a region: the choices and the points
abbrev pub depth_below : Parts → (ℕ → List ℕ) → Region → ℕ
depth_below p ends g = choices_of p g.forbidden + points_of p ends g.ranges

-- the branching depth: no node of a search's tree lies deeper
pub record IsBranchingDepth (p : Parts) (depth : ℕ) : Type 0 where
  pub ends : ℕ → List ℕ
  pub are_ends : AreAllEnds p ends
  pub is_depth : depth ≡ depth_below p ends (whole p)
