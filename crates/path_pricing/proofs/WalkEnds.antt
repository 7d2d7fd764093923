-- What is known of the arcs of a path without a fault, and of prices that fit.
use Rattle.std.proofs.Common.{◌≡◌, ℕ, ◌<◌, ◌≤◌, Bool, true, not, ◌==◌, List, length, get_or, All, Some, None, refl, sym, subst, arith}
use Rattle.std.proofs.lemmas.Bool.{eq-eqb}
use Rattle.std.proofs.lemmas.List.Elements.{All-from_get_or}
use Rattle.plan_base.specs.declared.ids.ArcId.{ArcId}
use Rattle.plan_base.specs.declared.parts.Demand.{Demand}
use Rattle.plan_base.specs.declared.parts.Parts.{Parts}
use Rattle.plan_base.specs.declared.limits.TheConstants.{MAX_NODES, MAX_PRICED_LOAD}
use Rattle.plan_base.specs.First.{◌or_else◌, when, first_fault, fault_at, first_in}
use Rattle.plan_base.specs.Facts.{IsInstance, price_limit}
use Rattle.plan_base.specs.Arcs.{demand_at, no_arc}
use Rattle.plan_base.specs.Places.{places, place_of}
use Rattle.plan_base.proofs.PathSums.{place-within}
use Rattle.plan_base.specs.Paths.{arc_at, node_at}
use Rattle.plan_base.proofs.FirstFault.{or_else-none}
use Rattle.plan_base.proofs.PriceLaws.{price_limit_le}
use Rattle.arc_restrict.specs.Restrictions.{Forbidden}
use Rattle.path_pricing.specs.declared.priced.Unfit.{Unfit}
use Rattle.path_pricing.specs.declared.priced.Unfit.TheVariants.{NotPermitted}
use Rattle.path_pricing.specs.Priced.{ArePrices}
use Rattle.path_pricing.specs.Faults.{place_fault, walk_fault, first_dearer, length_fault, path_fault}
use Rattle.path_pricing.proofs.PlaceLaws.{IsInPlace-before, place-short}

places-walk_fault : (p : Parts) (d : Demand) (f : ArcId → Bool) (arcs : List ArcId) → None ≡ walk_fault p d f arcs → first_in (place_fault p d f arcs) arcs ≡ None
unfolding walk_fault
places-walk_fault p d f arcs h =
    (or_else-none (first_in (place_fault p d f arcs) arcs) (when (not (node_at p d.source arcs (length arcs) == d.target.0)) (NotPermitted (length arcs))) (sym h)).0

-- the fault of the first bad place is the walk's
pub walk_fault-place : (p : Parts) (d : Demand) (f : ArcId → Bool) (arcs : List ArcId) (e : Unfit) → first_in (place_fault p d f arcs) arcs ≡ Some e → Some e ≡ walk_fault p d f arcs
unfolding walk_fault
walk_fault-place p d f arcs e h = rw h refl

-- a walk without a bad place has a fault exactly where it ends elsewhere
pub walk_fault-end : (p : Parts) (d : Demand) (f : ArcId → Bool) (arcs : List ArcId) (i here : ℕ) → first_fault (fault_at (place_fault p d f arcs) arcs) i ≡ None
    → i ≡ length arcs → here ≡ node_at p d.source arcs i → when (not (here == d.target.0)) (NotPermitted (length arcs)) ≡ walk_fault p d f arcs
unfolding walk_fault
walk_fault-end p d f arcs i here none end_ stands =
    let all : first_in (place_fault p d f arcs) arcs ≡ None = subst (λ (n : ℕ). first_fault (fault_at (place_fault p d f arcs) arcs) n ≡ None) end_ none in
    let last : here ≡ node_at p d.source arcs (length arcs) = subst (λ (n : ℕ). here ≡ node_at p d.source arcs n) end_ stands in
    rw (all, last) refl

-- a path without a fault has fewer arcs than an instance may have nodes
pub walk-short : (p : Parts) (d : Demand) (f : ArcId → Bool) (arcs : List ArcId) → IsInstance p → d.source.0 < p.nodes → None ≡ walk_fault p d f arcs → length arcs < MAX_NODES
walk-short p d f arcs inst start h =
    let short = place-short p d f arcs (length arcs) inst start (omega arith) (places-walk_fault p d f arcs h) in
    omega (arith, short, inst.nodes)

-- each of its arcs has a place with a price
pub walk-places : (p : Parts) (d : Demand) (f : ArcId → Bool) (arcs : List ArcId) (prices : List ℕ) → ArePrices p prices → None ≡ walk_fault p d f arcs → All (λ a. place_of p a < length prices) arcs
walk-places p d f arcs prices fits h =
    All-from_get_or (λ a. place_of p a < length prices) arcs no_arc (λ i within.
    let place = IsInPlace-before p d f arcs (length arcs) (omega arith) (places-walk_fault p d f arcs h) i within in
    let inside : place_of p (arc_at arcs i) < places p = place-within p (arc_at arcs i) place.is_an_arc in
    omega (arith, inside, fits.count))

-- no price is above the limit of all limits
pub prices-small : (p : Parts) (prices : List ℕ) → ArePrices p prices → All (λ price. price ≤ MAX_PRICED_LOAD) prices
prices-small p prices fits =
    All-from_get_or (λ price. price ≤ MAX_PRICED_LOAD) prices 0 (λ i within.
    let small : get_or prices i 0 ≤ price_limit p = fits.within_limit i 0 within in
    let limit = price_limit_le p in
    omega (arith, small, limit))

-- a fault of the walk is the path's first
pub path_fault-walk : (p : Parts) (prices : List ℕ) (k : ℕ) (r : Forbidden) (arcs : List ArcId) (price : ℕ) (potentials : List ℕ) (d : Demand) (e : Unfit) → d ≡ demand_at p k → Some e ≡ walk_fault p d (r k) arcs → Some e ≡ path_fault p prices k r arcs price potentials
unfolding path_fault
path_fault-walk p prices k r arcs price potentials d e of_k h =
    let here : Some e ≡ walk_fault p (demand_at p k) (r k) arcs = subst (λ (x : Demand). Some e ≡ walk_fault p x (r k) arcs) of_k h in
    rw (← here) refl

-- else, where there is one potential for each node, it is the first fault of these
pub path_fault-rest : (p : Parts) (prices : List ℕ) (k : ℕ) (r : Forbidden) (arcs : List ArcId) (price : ℕ) (potentials : List ℕ) (d : Demand) → d ≡ demand_at p k → None ≡ walk_fault p d (r k) arcs → length potentials ≡ p.nodes
    → path_fault p prices k r arcs price potentials ≡ (first_dearer p prices k r potentials or_else length_fault p prices d arcs price potentials)
unfolding path_fault
path_fault-rest p prices k r arcs price potentials d of_k h count =
    let here : None ≡ walk_fault p (demand_at p k) (r k) arcs = subst (λ (x : Demand). None ≡ walk_fault p x (r k) arcs) of_k h in
    let right : (length potentials == p.nodes) ≡ true = eq-eqb _ _ count in
    rw (← here, right, of_k) refl
