-- The one weight that each arc has while a demand is laid. No public contract cites it.
use Rattle.std.specs.Prelude.{ℕ, zero, suc, ◌+◌, ◌*◌, ◌-◌, ◌<◌, ◌≤◌, ◌⊎◌, List, [], ◌∷◌, ◌++◌, Option, Some, None, length, slice_index}
use Rattle.std.proofs.Common.{inl, inr}
use Rattle.plan_base.specs.declared.parts.Parts.{Parts}
use Rattle.plan_base.specs.Arcs.{link_at}
use Rattle.plan_base.specs.Facts.{top_load}
use Rattle.plan_base.specs.Places.{link_of_place, there_of, back_of}
use Rattle.link_steps.proofs.Order.{either_way}
use Rattle.link_steps.proofs.Carrying.{top-can_carry}
use Rattle.link_steps.proofs.LeastCosts.{least_cost-exists}
use Rattle.least_path.specs.Paths.{Weights}
use Rattle.demand_routing.specs.Traffic.{with_more, larger_of, place_at, span_of, halved}

-- the least module cost of a load up to the top load
abbrev pub module_cost_by : (p : Parts) (e load : ℕ) → (load ≤ top_load p (link_at p e)) ⊎ (top_load p (link_at p e) < load) → Option ℕ
module_cost_by p e load (inl low) = Some ((least_cost-exists (link_at p e) load (top-can_carry p (link_at p e) load low)).0)
module_cost_by p e load (inr high) = None

-- with the routing cost of what a link's places carry
abbrev pub with_routing : Parts → (ℕ → ℕ) → ℕ → Option ℕ → Option ℕ
with_routing p g e None = None
with_routing p g e (Some cost) = Some ((link_at p e).routing * (there_of p g e + back_of p g e) + cost)

-- the step cost of a link for what its places carry, where it can carry that
abbrev pub cost_at : Parts → (ℕ → ℕ) → ℕ → Option ℕ
cost_at p g e = with_routing p g e (module_cost_by p e (larger_of p g e) (either_way (larger_of p g e) (top_load p (link_at p e))))

-- by how much the first cost is above the second, where there is a first one
abbrev pub rise_of : Option ℕ → Option ℕ → Option ℕ
rise_of None before = None
rise_of (Some after) None = Some after
rise_of (Some after) (Some before) = Some (after - before)

-- what the step cost of a place's link rises by where a load is added to the place
unfoldable pub added_cost : Parts → (ℕ → ℕ) → ℕ → ℕ → Option ℕ
added_cost p f q load = rise_of (cost_at p (with_more f q load) (link_of_place p q)) (cost_at p f (link_of_place p q))

-- what an arc weighs by what its load adds and what a span of loads adds, where the span is not nothing
abbrev pub far_of : Option ℕ → Option ℕ → ℕ → ℕ → Option ℕ
far_of None beyond load span = None
far_of (Some rise) None load span = Some rise
far_of (Some rise) (Some beyond) load zero = Some rise
far_of (Some rise) (Some beyond) load (suc n) = Some (halved rise beyond load (suc n))

-- what an arc of a place weighs where far more load is looked at too
unfoldable pub far_cost : Parts → (ℕ → ℕ) → ℕ → ℕ → ℕ → Option ℕ
far_cost p f q load far = far_of (added_cost p f q load) (added_cost p f q (span_of p (f q) load far)) load (span_of p (f q) load far)

-- the values of a function below a count
abbrev pub listed : (ℕ → Option ℕ) → ℕ → Weights
listed f zero = []
listed f (suc n) = listed f n ++ f n ∷ []

-- for each arc number what its link's step cost rises by where a load is added to the arc's place
unfoldable pub added_costs : Parts → List ℕ → ℕ → Weights
added_costs p loads load = listed (λ n. added_cost p (slice_index loads) (place_at p n) load) (2 * length p.links)

-- the same where far more load is looked at too
unfoldable pub far_costs : Parts → List ℕ → ℕ → ℕ → Weights
far_costs p loads load far = listed (λ n. far_cost p (slice_index loads) (place_at p n) load far) (2 * length p.links)
