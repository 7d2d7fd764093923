-- The price of a simple path, place by place.
use Rattle.std.proofs.Common.{◌≡◌, ℕ, List, slice_index, if◌then◌else◌}
use Rattle.plan_base.specs.declared.ids.ArcId.{ArcId}
use Rattle.plan_base.specs.declared.parts.Demand.{Demand}
use Rattle.plan_base.specs.declared.parts.Parts.{Parts}
use Rattle.plan_base.specs.Sums.{sum_below}
use Rattle.plan_base.specs.Places.{places, place_of}
use Rattle.plan_base.specs.Paths.{uses_place, IsSimplePath}
use Rattle.plan_base.proofs.PathSums.{sum_by-taken, HasPlacesOnce-simple}
use Rattle.arc_restrict.specs.Prices.{price_of}

-- the price of a simple path is the sum of the prices of the places that it uses
pub price_of-places : (p : Parts) (k : Demand) (prices : List ℕ) (arcs : List ArcId) → IsSimplePath p k arcs → price_of p prices arcs ≡ sum_below (λ q. if uses_place p q arcs then slice_index prices q else 0) (places p)
price_of-places p k prices arcs simple = sum_by-taken (place_of p) (slice_index prices) (places p) arcs (HasPlacesOnce-simple p k arcs simple)
