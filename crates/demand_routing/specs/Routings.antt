-- Paths of all demands, what the places carry with them, and the ways that a demand may be laid on.
use Rattle.std.specs.Prelude.{ℕ, ◌≡◌, ◌<◌, ◌+◌, ◌-◌, ◌^◌, min, Bool, true, false, List, length, Option, None, IfSome, slice_index, slice_index_or, slice_set, if◌then◌else◌}
use Rattle.std.specs.Option.{unwrap_or}
use Rattle.plan_base.specs.declared.ids.ArcId.{ArcId}
use Rattle.plan_base.specs.declared.parts.Demand.{Demand}
use Rattle.plan_base.specs.declared.parts.Parts.{Parts}
use Rattle.plan_base.specs.declared.limits.TheConstants.{MAX_PLACES}
use Rattle.plan_base.specs.Arcs.{demand_at}
use Rattle.plan_base.specs.Paths.{IsSimplePath}
use Rattle.plan_base.specs.Places.{places}
use Rattle.plan_base.specs.Sums.{sum_below}
use Rattle.plan_base.specs.Designs.{path_at, load_from}
use Rattle.least_path.specs.Paths.{Weights}
use Rattle.completions.specs.Completions.{with_paths, ArePaths}
use Rattle.demand_routing.specs.declared.routing.Routing.{Routing}
use Rattle.demand_routing.specs.Kept.{IsLeastKept, HasNoneKept, HasNoneKeptBelow}
use Rattle.demand_routing.specs.Holding.{AreHeld}
use Rattle.demand_routing.specs.Traffic.{IsRiseAlong, AreAddedCosts, AreFarCosts}

-- whether the demand of this number is marked
abbrev pub is_marked : List Bool → ℕ → Bool
is_marked marks k = slice_index_or marks k false

-- what a demand puts on a place: its load where it is laid and its path uses an arc of the place, in load grains
abbrev pub laid_on : Parts → List (List ArcId) → List Bool → ℕ → ℕ → ℕ
laid_on p paths laid q k = if is_marked laid k then load_from p (with_paths paths) q k else 0

-- each place carries the loads of the demands that are laid and whose paths use it
abbrev pub AreLoads : Parts → List (List ArcId) → List Bool → List ℕ → Type 0
AreLoads p paths laid loads = (q : ℕ) → q < MAX_PLACES → slice_index loads q ≡ sum_below (laid_on p paths laid q) (length p.demands)

-- a simple path and a mark for each demand, the loads of those that are marked as laid, and step costs that are held
pub record IsRouting (p : Parts) (r : Routing) : Type 0 where
  pub paths : ArePaths p r.paths.items
  pub marks : length r.laid.items ≡ length p.demands
  pub loads : AreLoads p r.paths.items r.laid.items r.loads.value
  pub held : AreHeld p r.helds.value

-- the paths, the marks and the loads are the same
pub record HasSameRoutes (r s : Routing) : Type 0 where
  pub paths : r.paths ≡ s.paths
  pub laid : r.laid ≡ s.laid
  pub loads : r.loads.value ≡ s.loads.value

-- a simple path from the source of the demand of this number to its target
abbrev pub IsPathOf : Parts → ℕ → List ArcId → Type 0
IsPathOf p k arcs = IsSimplePath p (demand_at p k) arcs

-- what the arcs of a demand's path add together where its load comes to these loads; none where a link cannot carry that
abbrev pub IsRiseOf : Parts → List ℕ → List (List ArcId) → ℕ → Option ℕ → Type 0
IsRiseOf p loads paths k rise = IsRiseAlong p loads (demand_at p k).load (path_at (with_paths paths) k) rise

-- the cost after a demand is laid on its path, where places carry these loads without it: the cost before and what the arcs of the path add, up to the greatest number; that number where a link cannot carry the load
pub record IsCostWith (p : Parts) (loads : List ℕ) (paths : List (List ArcId)) (k before after : ℕ) : Type 0 where
  pub rise : Option ℕ
  pub is_rise : IsRiseOf p loads paths k rise
  pub is_cost : after ≡ min (before + unwrap_or rise (2 ^ 128 - 1)) (2 ^ 128 - 1)

-- the loads and the cost without a demand: the cost less what the arcs of its path add to these loads, where it is laid and their links can carry that
pub record IsCostWithout (p : Parts) (r : Routing) (k : ℕ) (loads : List ℕ) (cost : ℕ) : Type 0 where
  pub fall : Option ℕ
  pub are_loads : AreLoads p r.paths.items (slice_set r.laid.items k false) loads
  pub is_fall : is_marked r.laid.items k ≡ true → IsRiseOf p loads r.paths.items k fall
  pub no_fall : is_marked r.laid.items k ≡ false → fall ≡ None
  pub is_cost : cost ≡ r.cost - unwrap_or fall 0

-- the cost after a demand is moved is that without it, and then with it on the path that it has after
pub record IsMoved (p : Parts) (k : ℕ) (before after : Routing) : Type 0 where
  pub loads : List ℕ
  pub cost : ℕ
  pub without : IsCostWithout p before k loads cost
  pub laid : IsCostWith p loads after.paths.items k cost after.cost

-- a path of the demand within its limit that raises the step costs by so much where its load comes to what the places carry, and none within it raises them by less
pub record IsCheapestWay (p : Parts) (loads : List ℕ) (k : Demand) (arcs : List ArcId) (rise : ℕ) : Type 0 where
  pub weights : Weights
  pub added : AreAddedCosts p loads k.load (places p) weights
  pub least : IsLeastKept p weights k arcs rise

-- the cheapest way of a demand, which raises the step costs by less than this
pub record IsCheaperWay (p : Parts) (loads : List ℕ) (k : Demand) (own : Option ℕ) (arcs : List ArcId) : Type 0 where
  pub rise : ℕ
  pub cheapest : IsCheapestWay p loads k arcs rise
  pub less : IfSome own (λ own. rise < own)

-- a path of the demand within its limit, of this weight where far more load is looked at too, and none within it weighs less
pub record IsLeastWay (p : Parts) (loads : List ℕ) (k : Demand) (far : ℕ) (arcs : List ArcId) (weight : ℕ) : Type 0 where
  pub weights : Weights
  pub far_costs : AreFarCosts p loads k.load far (places p) weights
  pub least : IsLeastKept p weights k arcs weight

-- there is no path of the demand within its limit where far more load is looked at too
pub record HasNoFarWay (p : Parts) (loads : List ℕ) (k : Demand) (far : ℕ) : Type 0 where
  pub weights : Weights
  pub far_costs : AreFarCosts p loads k.load far (places p) weights
  pub none : HasNoneKept p weights k

-- no path of the demand within its limit has links that can all carry its load beside what they carry
pub record HasNoWay (p : Parts) (loads : List ℕ) (k : Demand) : Type 0 where
  pub weights : Weights
  pub added : AreAddedCosts p loads k.load (places p) weights
  pub none : HasNoneKept p weights k

-- no path of the demand within its limit raises the step costs by less than this; where no rise is given, no such path has links that can all carry its load
pub record HasNoCheaperWay (p : Parts) (loads : List ℕ) (k : Demand) (own : Option ℕ) : Type 0 where
  pub weights : Weights
  pub added : AreAddedCosts p loads k.load (places p) weights
  pub none : HasNoneKeptBelow p weights k own

-- some demands are laid, and one that is not has no path within its limit whose links can carry it
pub record IsStuck (p : Parts) : Type 0 where
  pub paths : List (List ArcId)
  pub laid : List Bool
  pub loads : List ℕ
  pub demand : ℕ
  pub are_paths : ArePaths p paths
  pub are_loads : AreLoads p paths laid loads
  pub within : demand < length p.demands
  pub off : is_marked laid demand ≡ false
  pub no_way : HasNoWay p loads (demand_at p demand)
