-- Given paths, and what the cheapest design with them is.
use Rattle.std.specs.Prelude.{ℕ, ◌≡◌, ◌<◌, ◌≤◌, List, [], length}
use Rattle.plan_base.specs.declared.ids.ArcId.{ArcId}
use Rattle.plan_base.specs.declared.parts.Parts.{Parts}
use Rattle.plan_base.specs.declared.path.Design.{Design}
use Rattle.plan_base.specs.Arcs.{demand_at}
use Rattle.plan_base.specs.Paths.{IsSimplePath}
use Rattle.plan_base.specs.Designs.{path_at, load_at, need, cost_of, IsDesign, CarriesLoads, IsCarriedDesign}
use Rattle.plan_base.specs.Places.{places, link_of_place}
use Rattle.link_steps.specs.declared.range.LoadRange.{LoadRange}
use Rattle.link_steps.specs.Ranges.{IsIn, range_at}
use Rattle.link_steps.specs.Costs.{CanCarry, CannotCarry}

-- a design with these paths; its counts do not matter
abbrev pub with_paths : List (List ArcId) → Design
with_paths paths = record { paths = paths; counts = [] }

-- one simple path for each demand, in order
pub record ArePaths (p : Parts) (paths : List (List ArcId)) : Type 0 where
  pub count : length paths ≡ length p.demands
  pub simple : (k : ℕ) → k < length p.demands → IsSimplePath p (demand_at p k) (path_at (with_paths paths) k)

-- a design in shape with these paths whose links carry them, its cost in cost grains, and no design with them whose links carry them costs less
pub record IsCompletion (p : Parts) (paths : List (List ArcId)) (cost : ℕ) (d : Design) : Type 0 where
  pub same_paths : d.paths ≡ paths
  pub carried : IsCarriedDesign p d
  pub is_cost : cost ≡ cost_of p d
  pub least : (other : Design) → other.paths ≡ paths → IsDesign p other → CarriesLoads p other → cost ≤ cost_of p other

-- the link of this number cannot carry, by any counts, what it needs for these paths
abbrev pub IsOverfull : Parts → List (List ArcId) → ℕ → Type 0
IsOverfull p paths e = CannotCarry p e (need p (with_paths paths) e)

-- each link before this number can carry, by some counts, what it needs for these paths
abbrev pub CarryLoads : Parts → List (List ArcId) → ℕ → Type 0
CarryLoads p paths link = (e : ℕ) → e < link → CanCarry p e (need p (with_paths paths) e)

-- some link cannot carry, by any counts, what it needs for these paths
pub record HasOverfull (p : Parts) (paths : List (List ArcId)) : Type 0 where
  pub link : ℕ
  pub within : link < length p.links
  pub overfull : IsOverfull p paths link

-- the first link that cannot carry, by any counts, what it needs for these paths
pub record IsFirstOverfull (p : Parts) (paths : List (List ArcId)) (link : ℕ) : Type 0 where
  pub within : link < length p.links
  pub overfull : IsOverfull p paths link
  pub before : CarryLoads p paths link

-- each place before this number has a load in its range for these paths
abbrev pub AreInside : Parts → List LoadRange → List (List ArcId) → ℕ → Type 0
AreInside p ranges paths place = (q : ℕ) → q < place → IsIn (range_at ranges q) (load_at p (with_paths paths) q)

-- a place of the link has a load outside its range for these paths
pub record HasOutside (p : Parts) (ranges : List LoadRange) (paths : List (List ArcId)) (link : ℕ) : Type 0 where
  pub place : ℕ
  pub within : place < places p
  pub is_link : link ≡ link_of_place p place
  pub outside : IsIn (range_at ranges place) (load_at p (with_paths paths) place) → ⊥
