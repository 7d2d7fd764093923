-- What evidence of a closed leaf says of the feasible designs in it.
use Rattle.std.proofs.Common.{◌≡◌, ℕ, zero, suc, ◌*◌, ◌<◌, ◌≤◌, inl, inr, Bool, true, false, List, length, slice_index, slice_index_or, if◌then◌else◌, Option, Some, None, refl, sym, ap, subst, ◌∙◌, arith}
use Rattle.std.specs.Prelude.{IsNone, IfSome, IsSomeAnd}
use Rattle.std.specs.Option.{option_map}
use Rattle.std.proofs.Math.Nat.{mul-le-mul_left}
use Rattle.plan_base.specs.declared.ids.ArcId.{ArcId}
use Rattle.plan_base.specs.declared.ids.DemandId.{DemandId}
use Rattle.plan_base.specs.declared.ids.LinkId.{LinkId}
use Rattle.plan_base.specs.declared.parts.Parts.{Parts}
use Rattle.plan_base.specs.declared.path.Design.{Design}
use Rattle.plan_base.specs.Facts.{is_useful}
use Rattle.plan_base.specs.Arcs.{link_at, demand_at, no_arc}
use Rattle.plan_base.specs.Paths.{uses_place, arc_at, node_at, IsSimplePath}
use Rattle.plan_base.specs.Designs.{path_at, counts_at, load_from, load_at, need, carried, link_cost, cost_of, IsDesign, IsFeasible, KeepsLimit}
use Rattle.link_steps.specs.declared.range.LoadRange.{LoadRange}
use Rattle.link_steps.specs.Costs.{Carries, IsStepCost}
use Rattle.link_steps.specs.Ranges.{range_at, range_there, range_back, IsIn}
use Rattle.link_steps.proofs.Carrying.{capacity-useless}
use Rattle.arc_restrict.specs.Restrictions.{Forbidden, IsPermitted, IsPermittedPath, LiesIn}
use Rattle.proof_tree.specs.Regions.{Region, whole, AreInRange, LiesWithin}
use Rattle.proof_tree.specs.Evidence.{AreOnlyPaths, is_cut_short, room_at, CostEnough, ClosedByOverfull, ClosedByCut, ClosedByFar, ClosedByCrowd}
use Rattle.proof_tree.specs.Plans.{IsStatedDesign}
use Rattle.plan_base.specs.Places.{places, link_of_place, there_of, back_of}
use Rattle.plan_base.proofs.PlaceSums.{there-same, back-same, place-le-larger, link_of_place-within}
use Rattle.plan_base.proofs.SumsBelow.{sum_below-same, sum_below-le}
use Rattle.proof_tree.proofs.RangeLaws.{loads-in_range}
use Rattle.proof_tree.proofs.Duality.{price_total-le}

-- a feasible design in a region
pub record IsFeasibleIn (p : Parts) (g : Region) (d : Design) : Type 0 where
  pub design : IsDesign p d
  pub feasible : IsFeasible p d
  pub lies : LiesWithin p d g

-- the path of each demand of a design that lies in a restriction is permitted
pub permitted_path : (p : Parts) (r : Forbidden) (d : Design) → IsDesign p d → LiesIn p d r → (k : ℕ) → k < length p.demands → IsPermittedPath p r k (path_at d k)
permitted_path p r d design lies k below = record { simple = design.paths k below; permitted = lies k below }

-- where only one routing is permitted, a design in the restriction has its loads
only_paths-load : (p : Parts) (r : Forbidden) (routing d : Design) (q : ℕ) → AreOnlyPaths p r routing → IsDesign p d → LiesIn p d r → load_at p d q ≡ load_at p routing q
unfolding load_from
only_paths-load p r routing d q only design lies =
    sum_below-same (load_from p d q) (load_from p routing q) (length p.demands)
    (λ k below. ap (λ arcs. if uses_place p q arcs then (demand_at p k).load else 0) ((only k below).only (path_at d k) (permitted_path p r d design lies k below)))

-- and so on the places of a link
record HasLoads (p : Parts) (d routing : Design) (e : ℕ) : Type 0 where
  there : there_of p (load_at p d) e ≡ there_of p (load_at p routing) e
  back : back_of p (load_at p d) e ≡ back_of p (load_at p routing) e

only_paths-loads : (p : Parts) (r : Forbidden) (routing d : Design) (e : ℕ) → e < length p.links → AreOnlyPaths p r routing → IsDesign p d → LiesIn p d r → HasLoads p d routing e
only_paths-loads p r routing d e within only design lies = record {
  there = there-same p (load_at p d) (load_at p routing) e within (λ q below. only_paths-load p r routing d q only design lies);
  back = back-same p (load_at p d) (load_at p routing) e within (λ q below. only_paths-load p r routing d q only design lies);
}

Carries-load : (p : Parts) (d routing : Design) (e : ℕ) → IsDesign p d → IsFeasible p d → e < length p.links → HasLoads p d routing e → Carries p e (need p routing e) (counts_at d e)
Carries-load p d routing e design feasible within same = record { count = design.counts e within; lawful = design.lawful e within; enough = rw (← same.there, ← same.back) (feasible.carried e within) }

step_cost-le : (p : Parts) (d routing : Design) (e cost : ℕ) → IsDesign p d → IsFeasible p d → e < length p.links → HasLoads p d routing e
    → IsStepCost p e (there_of p (load_at p routing) e) (back_of p (load_at p routing) e) cost → cost ≤ link_cost p d e
step_cost-le p d routing e cost design feasible within same is_cost =
    let cheaper = is_cost.is_least.least (counts_at d e) (Carries-load p d routing e design feasible within same) in
    let sum = is_cost.is_sum in
    let loads : carried p d e ≡ carried p routing e = omega (arith, same.there, same.back) in
    let routed : (link_at p e).routing * carried p d e ≡ (link_at p e).routing * carried p routing e = ap (λ x. (link_at p e).routing * x) loads in
    omega arith

-- where the only paths cost at least so much, so does each feasible design in the region
pub routing-le : (p : Parts) (g : Region) (cost : ℕ) (d : Design) → CostEnough p g.forbidden cost → IsFeasibleIn p g d → cost ≤ cost_of p d
routing-le p g cost d closed h =
    let each = sum_below-le closed.step_costs (link_cost p d) (length p.links) (λ e within.
    step_cost-le p d closed.routing e (closed.step_costs e) h.design h.feasible within (only_paths-loads p g.forbidden closed.routing d e within closed.only h.design h.lies.paths) (closed.are_costs e within)) in
    let enough = closed.enough in
    omega arith

-- loads that are those of a design in range are in range
in_range-same : (p : Parts) (ranges : List LoadRange) (d routing : Design) (e : ℕ) → HasLoads p d routing e → AreInRange p ranges d e → AreInRange p ranges routing e
in_range-same p ranges d routing e same in_range = record {
  there = subst (IsIn (range_there p ranges e)) same.there in_range.there;
  back = subst (IsIn (range_back p ranges e)) same.back in_range.back;
}

-- no feasible design lies in a region that an overfull link closes
pub overfull-none : (p : Parts) (g : Region) (link : LinkId) (d : Design) → ClosedByOverfull p g link → IsFeasibleIn p g d → ⊥
overfull-none p g link d closed h =
    let same = only_paths-loads p g.forbidden closed.routing d link.0 closed.is_link closed.only h.design h.lies.paths in
    elim closed.overfull [
      | inl cannot ↦ cannot (counts_at d link.0) (Carries-load p d closed.routing link.0 h.design h.feasible closed.is_link same)
      | inr outside ↦ outside (in_range-same p g.ranges d closed.routing link.0 same (loads-in_range p d g link.0 closed.is_link h.lies))
    ]

-- a permitted path does not leave a closed set
stays : (p : Parts) (r : Forbidden) (id : DemandId) (reached : List Bool) (arcs : List ArcId) → ClosedByCut p r id reached → IsSimplePath p (demand_at p id.0) arcs → IsPermitted r id.0 arcs → (i : ℕ) → i ≤ length arcs → slice_index_or reached (node_at p (demand_at p id.0).source arcs i) false ≡ true
stays p r id reached arcs closed simple permitted zero within = closed.source
stays p r id reached arcs closed simple permitted (suc i) within =
    closed.closed (arc_at arcs i) (simple.are_arcs i (omega arith)) (permitted i no_arc (omega arith))
    (ap (λ n. slice_index_or reached n false) (simple.goes_on i (omega arith)) ∙ stays p r id reached arcs closed simple permitted i (omega arith))

-- no feasible design lies in a region where no permitted arc of a demand leaves a set with its source and not its target
pub cut-none : (p : Parts) (g : Region) (id : DemandId) (reached : List Bool) (d : Design) → ClosedByCut p g.forbidden id reached → IsFeasibleIn p g d → ⊥
cut-none p g id reached d closed h =
    let simple = h.design.paths id.0 closed.demand in
    let inside = stays p g.forbidden id reached (path_at d id.0) closed simple (h.lies.paths id.0 closed.demand) (length (path_at d id.0)) (omega arith) in
    let bad : true ≡ false = sym inside ∙ ap (λ n. slice_index_or reached n false) simple.ends_at_target ∙ closed.target in
    cc

-- a feasible design has a permitted path within each limit
pub far-none : (p : Parts) (g : Region) (id : DemandId) (d : Design) → ClosedByFar p g.forbidden id → IsFeasibleIn p g d → ⊥
far-none p g id d closed h = by_limit (demand_at p id.0).hops closed.far (h.feasible.limits id.0 closed.demand)
  where
    by_limit : (hops : Option ℕ) → IsSomeAnd hops (λ limit. (arcs : List ArcId) → IsPermittedPath p g.forbidden id.0 arcs → limit < length arcs) → KeepsLimit hops (length (path_at d id.0)) → ⊥
    by_limit None far keeps = far
    by_limit (Some limit) far keeps =
        let longer = far (path_at d id.0) (permitted_path p g.forbidden d h.design h.lies.paths id.0 closed.demand) in
        omega arith

-- no feasible design lies in a region where loads at least prices exceed the prices of all that places may carry
pub crowd-none : (p : Parts) (g : Region) (prices : List ℕ) (d : Design) → ClosedByCrowd p g prices → IsFeasibleIn p g d → ⊥
crowd-none p g prices d closed h =
    let priced = price_total-le p g.forbidden prices closed.least_prices d closed.are_least h.design h.lies.paths in
    let carried = sum_below-le (λ q. slice_index prices q * load_at p d q) (λ q. slice_index prices q * room_at p g.ranges q) (places p) (λ q within. at_place q within (is_cut_short p g.ranges q) refl) in
    let crowded = closed.crowded in
    omega arith
  where
    of_link : (q : ℕ) → q < places p → is_cut_short p g.ranges q ≡ false → (b : Bool) → is_useful (link_at p (link_of_place p q)) ≡ b → slice_index prices q * load_at p d q ≤ slice_index prices q * (link_at p (link_of_place p q)).pre
    of_link q within whole true is = rw (closed.free q within is whole) (omega arith)
    of_link q within whole false is =
        let e = link_of_place p q in
        let same = capacity-useless (link_at p e) (counts_at d e) is in
        let carries = h.feasible.carried e (link_of_place-within p q within) in
        let larger : load_at p d q ≤ need p d e = place-le-larger p (load_at p d) q in
        mul-le-mul_left (slice_index prices q) (omega arith)

    at_place : (q : ℕ) → q < places p → (b : Bool) → is_cut_short p g.ranges q ≡ b → slice_index prices q * load_at p d q ≤ slice_index prices q * (if b then (range_at g.ranges q).most else (link_at p (link_of_place p q)).pre)
    at_place q within true is = mul-le-mul_left (slice_index prices q) (h.lies.loads q within).few
    at_place q within false is = of_link q within is (is_useful (link_at p (link_of_place p q))) refl

-- the cost, if there is one, is that of some design
abbrev pub IsCostOfSome : Parts → Option ℕ → Type 0
IsCostOfSome p cost = IfSome cost (λ c. (stated : Design) × (cost_of p stated ≡ c))

-- an option that has nothing in it is none
pub none_of : {X : Type 0} (o : Option X) → IsNone o → o ≡ None
none_of None h = refl
none_of (Some x) h = absurd (let bad : true ≡ false = h in cc)

-- the cost that a plan states is that of its design
pub stated-cost : (p : Parts) (design : Option (ℕ × Design)) → IfSome design (λ x. IsStatedDesign p x.0 x.1) → IsCostOfSome p (option_map (λ x. x.0) design)
stated-cost p None stated = tt
stated-cost p (Some x) stated = (x.1, stated.cost_is)
