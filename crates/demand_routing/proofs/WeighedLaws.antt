-- The weights of all arcs are what loads add.
use Rattle.std.proofs.Common.{◌≡◌, ℕ, ◌*◌, ◌<◌, List, length, slice_index, slice_index_or, Option, Some, None, IfNone, sym, subst}
use Rattle.plan_base.specs.declared.ids.ArcId.{ArcId}
use Rattle.plan_base.specs.declared.parts.Demand.{Demand}
use Rattle.plan_base.specs.declared.parts.Parts.{Parts}
use Rattle.plan_base.specs.Paths.{IsSimplePath}
use Rattle.demand_routing.specs.Kept.{IsLeastKept, HasNoneKept, HasNoneKeptBelow}
use Rattle.demand_routing.specs.Traffic.{place_at, IsAddedCost, IsFarCost}
use Rattle.demand_routing.specs.Weighed.{added_cost, far_cost, added_costs, far_costs}
use Rattle.demand_routing.specs.Routings.{IsCheapestWay, HasNoWay, HasNoCheaperWay, IsLeastWay, HasNoFarWay}
use Rattle.demand_routing.proofs.KeptLaws.{kept_simple}
use Rattle.demand_routing.proofs.AddedCosts.{added-is, far-is, listed-at, listed-length}

-- there is an added cost for each arc
pub added_count : (p : Parts) (loads : List ℕ) (load : ℕ) → length (added_costs p loads load) ≡ 2 * length p.links
unfolding added_costs
added_count p loads load = listed-length (λ (n : ℕ). added_cost p (slice_index loads) (place_at p n) load) (2 * length p.links)

-- the added cost of an arc is what the load adds on its link
pub added-at : (p : Parts) (loads : List ℕ) (load n : ℕ) → n < 2 * length p.links → IsAddedCost p (slice_index loads) (place_at p n) load (slice_index_or (added_costs p loads load) n None)
unfolding added_costs
added-at p loads load n below =
    subst (λ (w : Option ℕ). IsAddedCost p (slice_index loads) (place_at p n) load w)
    (sym (listed-at (λ (k : ℕ). added_cost p (slice_index loads) (place_at p k) load) (2 * length p.links) n below))
    (added-is p (slice_index loads) (place_at p n) load)

-- there is a far cost for each arc
pub far_count : (p : Parts) (loads : List ℕ) (load far : ℕ) → length (far_costs p loads load far) ≡ 2 * length p.links
unfolding far_costs
far_count p loads load far = listed-length (λ (n : ℕ). far_cost p (slice_index loads) (place_at p n) load far) (2 * length p.links)

-- the far cost of an arc is what it weighs where far more load is looked at
pub far-at : (p : Parts) (loads : List ℕ) (load far n : ℕ) → n < 2 * length p.links → IsFarCost p (slice_index loads) (place_at p n) load far (slice_index_or (far_costs p loads load far) n None)
unfolding far_costs
far-at p loads load far n below =
    subst (λ (w : Option ℕ). IsFarCost p (slice_index loads) (place_at p n) load far w)
    (sym (listed-at (λ (k : ℕ). far_cost p (slice_index loads) (place_at p k) load far) (2 * length p.links) n below))
    (far-is p (slice_index loads) (place_at p n) load far)

-- a path within the limit of least added cost raises the step costs least
pub cheapest_way : (p : Parts) (loads : List ℕ) (k : Demand) (arcs : List ArcId) (rise : ℕ) → IsLeastKept p (added_costs p loads k.load) k arcs rise → IsCheapestWay p loads k arcs rise
cheapest_way p loads k arcs rise least = record { weights = added_costs p loads k.load; added = λ n within below. added-at p loads k.load n within; least = least }

-- where no path within the limit has less added cost than the own one, none raises the step costs by less
pub no_cheaper_way : (p : Parts) (loads : List ℕ) (k : Demand) (own : Option ℕ) → HasNoneKeptBelow p (added_costs p loads k.load) k own → HasNoCheaperWay p loads k own
no_cheaper_way p loads k own none = record { weights = added_costs p loads k.load; added = λ n within below. added-at p loads k.load n within; none = none }

-- where there is no own path and none is cheaper, no path within the limit has room for the load
pub no_way : (p : Parts) (loads : List ℕ) (k : Demand) (own : Option ℕ) → HasNoCheaperWay p loads k own → IfNone own (HasNoWay p loads k)
no_way p loads k None h = record { weights = h.weights; added = h.added; none = h.none }
no_way p loads k (Some own) h = tt

-- a path within the limit of least far cost is a least way
pub least_way : (p : Parts) (loads : List ℕ) (k : Demand) (far : ℕ) (arcs : List ArcId) (weight : ℕ) → IsLeastKept p (far_costs p loads k.load far) k arcs weight → IsLeastWay p loads k far arcs weight
least_way p loads k far arcs weight least = record { weights = far_costs p loads k.load far; far_costs = λ n within below. far-at p loads k.load far n within; least = least }

-- where no path within the limit has a far cost, there is no way for the load
pub no_far_way : (p : Parts) (loads : List ℕ) (k : Demand) (far : ℕ) → HasNoneKept p (far_costs p loads k.load far) k → HasNoFarWay p loads k far
no_far_way p loads k far none = record { weights = far_costs p loads k.load far; far_costs = λ n within below. far-at p loads k.load far n within; none = none }

-- a cheapest way is a simple path of the demand
pub cheapest_simple : (p : Parts) (loads : List ℕ) (k : Demand) (arcs : List ArcId) (rise : ℕ) → IsCheapestWay p loads k arcs rise → IsSimplePath p k arcs
cheapest_simple p loads k arcs rise way = kept_simple p way.weights k arcs rise way.least

-- a least way is a simple path of the demand
pub least_way_simple : (p : Parts) (loads : List ℕ) (k : Demand) (far : ℕ) (arcs : List ArcId) (weight : ℕ) → IsLeastWay p loads k far arcs weight → IsSimplePath p k arcs
least_way_simple p loads k far arcs weight way = kept_simple p way.weights k arcs weight way.least
