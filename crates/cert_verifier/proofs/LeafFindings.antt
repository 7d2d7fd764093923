-- What each kind of leaf finds, rule by rule.
use Rattle.std.proofs.Common.{◌≡◌, ℕ, ◌<◌, ◌≤◌, ◌*◌, ◌&&◌, ◌⊎◌, inl, inr, Bool, true, false, not, List, length, Option, Some, None, Result, Ok, Err, refl, sym, ap, subst, ◌∙◌, arith}
use Rattle.std.specs.Prelude.{◌↔◌, IfOk, IfNone, IsSome, IsSomeAnd, IsTrue, IsFalse, ℤ, pos, ◌+ℤ◌, ◌<ℤ◌}
use Rattle.std.proofs.lemmas.Bool.{true≢false}
use Rattle.plan_base.specs.declared.ids.LinkId.{LinkId}
use Rattle.plan_base.specs.declared.ids.DemandId.{DemandId}
use Rattle.plan_base.specs.declared.parts.Parts.{Parts}
use Rattle.plan_base.specs.declared.path.Design.{Design}
use Rattle.plan_base.specs.Arcs.{is_arc, tail_of, head_of, demand_at}
use Rattle.plan_base.specs.Designs.{KeepsLimits}
use Rattle.plan_base.proofs.SumsBelow.{sum_below-same}
use Rattle.link_steps.specs.Costs.{CannotCarry}
use Rattle.link_steps.specs.Unit.{IsUnit}
use Rattle.arc_restrict.specs.Restrictions.{Forbidden}
use Rattle.arc_restrict.specs.Prices.{AreWithinLimit, IsLeastPrice}
use Rattle.proof_tree.specs.declared.cuts.Cut.{Cut as LoadCut}
use Rattle.proof_tree.specs.declared.tree.Evidence.TheVariants.{Bound, Routed, Overfull, Cut, Far, Crowd, Open}
use Rattle.proof_tree.specs.Regions.{Region}
use Rattle.proof_tree.specs.Bounds.{AreLeastPrices, price_total}
use Rattle.proof_tree.specs.RatedEvidence.{rates_in, AreLawfulNumbers, IsBoundAt}
use Rattle.proof_tree.specs.Evidence.{AreOnlyPaths, CostEnough, holds, ClosedByCrowd}
use Rattle.proof_tree.specs.Plans.{IsOpenBound}
use Rattle.proof_tree.proofs.Farness.{AreFewest, IsPast, past-far, far-past}
use Rattle.proof_tree.proofs.RatedUniqueness.{rated_bound-unique}
use Rattle.proof_tree.proofs.UnitLaws.{unit-unique}
use Rattle.verifier_paths.specs.OnlyPaths.{HavePaths}
use Rattle.cert_verifier.specs.declared.rejected.Rejected.{Rejected}
use Rattle.cert_verifier.specs.declared.rejected.Rejected.TheVariants.{Leaf}
use Rattle.cert_verifier.specs.Leaving.{IsNoWayOut}
use Rattle.cert_verifier.specs.Totals.{IsPriceTotal, room_price}
use Rattle.cert_verifier.specs.Routings.{needed, IsCostOfLoads, HasOverfull, AreLoadsInRange}
use Rattle.cert_verifier.specs.LeafRules.{HasLimit, AreFreeOnUseful, Closes, LeafFinds}
use Rattle.cert_verifier.proofs.LeafLaws.{leaf_finds_none}
use Rattle.cert_verifier.proofs.RoutingLaws.{AreLoadsOf, only_paths, only_carry, only_overfull, routing_enough, routing_cost, only_limits, overfull_closes, closed-overfull}

-- a test that fails tells that the fact fails
pub not_so : (test : Bool) (A : Type 0) → (IsTrue test ↔ A) → test ≡ false → A → ⊥
not_so test A both is a = true≢false (sym (both.1 a) ∙ is)

paths_of_prices : (p : Parts) (r : Forbidden) (prices : List ℕ) (least_prices : ℕ → ℕ) → AreLeastPrices p r prices least_prices → HavePaths p r
paths_of_prices p r prices least_prices are_least k below = let least = are_least k below in (least.path, least.permitted)

-- the bound is above the cost less the unit, where there is a cost
abbrev pub IsAbove : Option ℕ → ℤ → ℕ → Type 0
IsAbove cost bound unit = IsSomeAnd cost (λ c. pos c <ℤ (bound +ℤ pos unit))

bound_is_above : (p : Parts) (cuts : List LoadCut) (cost : Option ℕ) (g : Region) (numbers : List ℕ) (bound : ℤ) (unit : ℕ) → IsUnit p unit → IsBoundAt p cuts g numbers bound → Closes p cuts cost g (Bound numbers) → IsAbove cost bound unit
bound_is_above p cuts None g numbers bound unit is_unit is closed = closed
bound_is_above p cuts (Some c) g numbers bound unit is_unit is closed =
    subst (λ (u : ℕ). pos c <ℤ (bound +ℤ pos u)) (unit-unique p closed.unit unit closed.is_unit is_unit)
    (subst (λ (b : ℤ). pos c <ℤ (b +ℤ pos closed.unit)) (rated_bound-unique p cuts g numbers (rates_in p numbers) closed.bound bound closed.is_bound is) closed.enough)

bound_closes : (p : Parts) (cuts : List LoadCut) (cost : Option ℕ) (g : Region) (numbers : List ℕ) (bound : ℤ) (unit : ℕ) → IsUnit p unit → AreLawfulNumbers p cuts numbers → IsBoundAt p cuts g numbers bound → IsAbove cost bound unit → Closes p cuts cost g (Bound numbers)
bound_closes p cuts None g numbers bound unit is_unit lawful is enough = enough
bound_closes p cuts (Some c) g numbers bound unit is_unit lawful is enough = record { lawful = lawful; bound = bound; is_bound = is; unit = unit; is_unit = is_unit; enough = enough }

-- the bound is too low
pub bound_too_low : (p : Parts) (cuts : List LoadCut) (cost : Option ℕ) (g : Region) (index : ℕ) (numbers : List ℕ) (bound : ℤ) (unit : ℕ) → IsUnit p unit → AreLawfulNumbers p cuts numbers → IsBoundAt p cuts g numbers bound → (IsAbove cost bound unit → ⊥)
    → LeafFinds p cuts cost g index (Bound numbers) (Some (Leaf index 3))
unfolding LeafFinds
bound_too_low p cuts cost g index numbers bound unit is_unit lawful is low =
    inr (inl (lawful, refl), inr (inl (paths_of_prices p g.forbidden numbers is.least_prices is.are_least, refl), inr ((λ closed. low (bound_is_above p cuts cost g numbers bound unit is_unit is closed)), refl)))

-- what is told of a leaf with a bound
pub bound_decided : (p : Parts) (cuts : List LoadCut) (cost : Option ℕ) (g : Region) (index : ℕ) (numbers : List ℕ) (bound : ℤ) (unit : ℕ) (above : Bool) (found : Option Rejected) → IsUnit p unit → AreLawfulNumbers p cuts numbers → IsBoundAt p cuts g numbers bound
    → (IsTrue above ↔ IsAbove cost bound unit) → (IsTrue above → found ≡ None) → (IsFalse above → found ≡ Some (Leaf index 3)) → LeafFinds p cuts cost g index (Bound numbers) found
bound_decided p cuts cost g index numbers bound unit true found is_unit lawful is enough ok broken = rw (ok refl) (leaf_finds_none p cuts cost g index (Bound numbers) (bound_closes p cuts cost g numbers bound unit is_unit lawful is (enough.0 refl)))
bound_decided p cuts cost g index numbers bound unit false found is_unit lawful is enough ok broken = rw (broken refl) (bound_too_low p cuts cost g index numbers bound unit is_unit lawful is (λ above. true≢false (sym (enough.1 above))))

-- a link cannot carry its load
pub routed_overfull : (p : Parts) (cuts : List LoadCut) (cost : Option ℕ) (g : Region) (index : ℕ) (d : Design) (loads : List ℕ) → AreOnlyPaths p g.forbidden d → AreLoadsOf p d loads → HasOverfull p loads → LeafFinds p cuts cost g index Routed (Some (Leaf index 3))
unfolding LeafFinds
routed_overfull p cuts cost g index d loads only are_loads over =
    inr (inl (only_paths p g.forbidden d only, refl), inr (inl ((d, only), refl), inl (refl, inr (only_overfull p g.forbidden d loads only are_loads over, refl))))

routed_cost : (p : Parts) (cost : Option ℕ) (r : Forbidden) (d : Design) (loads : List ℕ) (total : ℕ) → AreOnlyPaths p r d → AreLoadsOf p d loads → IsCostOfLoads p loads total → IsSomeAnd cost (λ c. CostEnough p r c) → IsSomeAnd cost (λ c. c ≤ total)
routed_cost p None r d loads total only are_loads is closed = closed
routed_cost p (Some c) r d loads total only are_loads is closed = routing_cost p r d loads total c only are_loads is closed

routed_enough : (p : Parts) (cost : Option ℕ) (r : Forbidden) (d : Design) (loads : List ℕ) (total : ℕ) → AreOnlyPaths p r d → AreLoadsOf p d loads → IsCostOfLoads p loads total → IsSomeAnd cost (λ c. c ≤ total)
    → IsSomeAnd cost (λ c. CostEnough p r c)
routed_enough p None r d loads total only are_loads is enough = enough
routed_enough p (Some c) r d loads total only are_loads is enough = routing_enough p r d loads total c only are_loads is enough

routed_closes : (p : Parts) (cuts : List LoadCut) (cost : Option ℕ) (g : Region) (d : Design) (loads : List ℕ) (total : ℕ) → AreOnlyPaths p g.forbidden d → AreLoadsOf p d loads → IsCostOfLoads p loads total → IsSomeAnd cost (λ c. c ≤ total)
    → KeepsLimits p d → Closes p cuts cost g Routed
routed_closes p cuts None g d loads total only are_loads is enough keeps = enough
routed_closes p cuts (Some c) g d loads total only are_loads is enough keeps =
    let costs = routing_enough p g.forbidden d loads total c only are_loads is enough in
    record { costs = costs; within = only_limits p g.forbidden costs.routing d costs.only only keeps }

-- the only paths of a closed leaf keep their limits
routed_limits : (p : Parts) (cuts : List LoadCut) (cost : Option ℕ) (g : Region) (d : Design) → AreOnlyPaths p g.forbidden d → Closes p cuts cost g Routed → KeepsLimits p d
routed_limits p cuts None g d only closed = absurd closed
routed_limits p cuts (Some c) g d only closed = only_limits p g.forbidden d closed.costs.routing only closed.costs.only closed.within

-- the only paths cost too little
pub routed_too_cheap : (p : Parts) (cuts : List LoadCut) (cost : Option ℕ) (g : Region) (index : ℕ) (d : Design) (loads : List ℕ) (total : ℕ) → AreOnlyPaths p g.forbidden d → AreLoadsOf p d loads → IsCostOfLoads p loads total
    → (IsSomeAnd cost (λ c. c ≤ total) → ⊥) → LeafFinds p cuts cost g index Routed (Some (Leaf index 4))
unfolding LeafFinds
routed_too_cheap p cuts cost g index d loads total only are_loads is cheap =
    inr (inl (only_paths p g.forbidden d only, refl), inr (inl ((d, only), refl), inr (inl (only_carry p g.forbidden d loads total only are_loads is, refl), inl (refl, inr ((λ costs. cheap (routed_cost p cost g.forbidden d loads total only are_loads is costs)), refl)))))

-- an only path is too long
pub routed_too_long : (p : Parts) (cuts : List LoadCut) (cost : Option ℕ) (g : Region) (index : ℕ) (d : Design) (loads : List ℕ) (total : ℕ) → AreOnlyPaths p g.forbidden d → AreLoadsOf p d loads → IsCostOfLoads p loads total
    → IsSomeAnd cost (λ c. c ≤ total) → (KeepsLimits p d → ⊥) → LeafFinds p cuts cost g index Routed (Some (Leaf index 5))
unfolding LeafFinds
routed_too_long p cuts cost g index d loads total only are_loads is enough long =
    inr (
      inl (only_paths p g.forbidden d only, refl),
      inr (
        inl ((d, only), refl),
        inr (
          inl (only_carry p g.forbidden d loads total only are_loads is, refl),
          inr
              (inl (routed_enough p cost g.forbidden d loads total only are_loads is enough, refl), inr ((λ closed. long (routed_limits p cuts cost g d only closed)), refl)),
        ),
      ),
    )

-- what is told of a leaf with only paths that the links carry
pub routed_decided : (p : Parts) (cuts : List LoadCut) (cost : Option ℕ) (g : Region) (index : ℕ) (d : Design) (loads : List ℕ) (total : ℕ) (enough within : Bool) (found : Option Rejected) → AreOnlyPaths p g.forbidden d → AreLoadsOf p d loads
    → IsCostOfLoads p loads total → (IsTrue enough ↔ IsSomeAnd cost (λ c. c ≤ total)) → (IsTrue within ↔ KeepsLimits p d)
    → (IsTrue enough → IsTrue within → found ≡ None) → (IsFalse enough → found ≡ Some (Leaf index 4)) → (IsTrue enough → IsFalse within → found ≡ Some (Leaf index 5)) → LeafFinds p cuts cost g index Routed found
routed_decided p cuts cost g index d loads total true true found only are_loads is costs keeps ok cheap long =
    rw (ok refl refl) (leaf_finds_none p cuts cost g index Routed (routed_closes p cuts cost g d loads total only are_loads is (costs.0 refl) (keeps.0 refl)))
routed_decided p cuts cost g index d loads total true false found only are_loads is costs keeps ok cheap long =
    rw (long refl refl) (routed_too_long p cuts cost g index d loads total only are_loads is (costs.0 refl) (λ within. true≢false (sym (keeps.1 within))))
routed_decided p cuts cost g index d loads total false within found only are_loads is costs keeps ok cheap long =
    rw (cheap refl) (routed_too_cheap p cuts cost g index d loads total only are_loads is (λ enough. true≢false (sym (costs.1 enough))))

-- a load of a place of the link is outside its range
pub overfull_outside : (p : Parts) (cuts : List LoadCut) (cost : Option ℕ) (g : Region) (index : ℕ) (link : LinkId) (d : Design) (loads : List ℕ) → link.0 < length p.links → AreOnlyPaths p g.forbidden d → AreLoadsOf p d loads
    → (AreLoadsInRange p g.ranges loads link.0 → ⊥) → LeafFinds p cuts cost g index (Overfull link) None
overfull_outside p cuts cost g index link d loads within only are_loads outside = leaf_finds_none p cuts cost g index (Overfull link) (overfull_closes p g d loads link only are_loads within (inr outside))

-- what is told of a leaf with only paths whose loads are in their ranges
pub overfull_decided : (p : Parts) (cuts : List LoadCut) (cost : Option ℕ) (g : Region) (index : ℕ) (link : LinkId) (d : Design) (loads : List ℕ) (cannot : Bool) (found : Option Rejected) → link.0 < length p.links → AreOnlyPaths p g.forbidden d → AreLoadsOf p d loads
    → AreLoadsInRange p g.ranges loads link.0 → (IsTrue cannot ↔ CannotCarry p link.0 (needed p loads link.0)) → (IsTrue cannot → found ≡ None) → (IsFalse cannot → found ≡ Some (Leaf index 4)) → LeafFinds p cuts cost g index (Overfull link) found
unfolding LeafFinds
overfull_decided p cuts cost g index link d loads true found within only are_loads room is ok broken =
    rw (ok refl) (leaf_finds_none p cuts cost g index (Overfull link) (overfull_closes p g d loads link only are_loads within (inl (is.0 refl))))
overfull_decided p cuts cost g index link d loads false found within only are_loads room is ok broken =
    let carried : CannotCarry p link.0 (needed p loads link.0) → ⊥ = λ cannot. true≢false (sym (is.1 cannot)) in
    rw (broken refl)
    (inr (inl (within, refl), inr (inl (only_paths p g.forbidden d only, refl), inr (inl ((d, only), refl), inr ((λ closed. neither carried room (closed-overfull p g d loads link only are_loads closed)), refl)))))
  where
    neither : {A B : Type 0} → (A → ⊥) → B → A ⊎ (B → ⊥) → ⊥
    neither without given (inl a) = without a
    neither without given (inr other) = other given

-- of a leaf that is closed by a cut: there is no such demand
pub cut_no_demand : (p : Parts) (cuts : List LoadCut) (cost : Option ℕ) (g : Region) (index : ℕ) (id : DemandId) (reached : List Bool) → (id.0 < length p.demands → ⊥) → LeafFinds p cuts cost g index (Cut id reached) (Some (Leaf index 1))
unfolding LeafFinds
cut_no_demand p cuts cost g index id reached broken = inl (refl, inr (broken, refl))

-- the source is outside
pub cut_without_source : (p : Parts) (cuts : List LoadCut) (cost : Option ℕ) (g : Region) (index : ℕ) (id : DemandId) (reached : List Bool) → id.0 < length p.demands → (IsTrue (holds reached (demand_at p id.0).source) → ⊥)
    → LeafFinds p cuts cost g index (Cut id reached) (Some (Leaf index 2))
unfolding LeafFinds
cut_without_source p cuts cost g index id reached within broken = inr (inl (within, refl), inl (refl, inr (broken, refl)))

-- the target is inside
pub cut_with_target : (p : Parts) (cuts : List LoadCut) (cost : Option ℕ) (g : Region) (index : ℕ) (id : DemandId) (reached : List Bool) → id.0 < length p.demands → IsTrue (holds reached (demand_at p id.0).source)
    → (holds reached (demand_at p id.0).target ≡ false → ⊥) → LeafFinds p cuts cost g index (Cut id reached) (Some (Leaf index 3))
unfolding LeafFinds
cut_with_target p cuts cost g index id reached within source broken = inr (inl (within, refl), inr (inl (source, refl), inl (refl, inr (broken, refl))))

stays_in : (arc forbidden tail head : Bool) → (arc && (not forbidden && (tail && not head))) ≡ false → IsTrue arc → forbidden ≡ false → IsTrue tail → IsTrue head
stays_in true false true true none x y z = refl
stays_in true false true false none x y z = absurd (let bad : true ≡ false = none in cc)
stays_in true false false head none x y z = absurd (let bad : false ≡ true = z in cc)
stays_in true true tail head none x y z = absurd (let bad : true ≡ false = y in cc)
stays_in false forbidden tail head none x y z = absurd (let bad : false ≡ true = x in cc)

leads_nowhere : (arc forbidden tail head : Bool) → (IsTrue arc → forbidden ≡ false → IsTrue tail → IsTrue head) → (arc && (not forbidden && (tail && not head))) ≡ false
leads_nowhere true false true true inside = refl
leads_nowhere true false true false inside = sym (inside refl refl refl)
leads_nowhere true false false head inside = refl
leads_nowhere true true tail head inside = refl
leads_nowhere false forbidden tail head inside = refl

-- a permitted arc leads out
pub cut_way_out : (p : Parts) (cuts : List LoadCut) (cost : Option ℕ) (g : Region) (index : ℕ) (id : DemandId) (reached : List Bool) → id.0 < length p.demands → IsTrue (holds reached (demand_at p id.0).source)
    → holds reached (demand_at p id.0).target ≡ false → (IsNoWayOut p g.forbidden id reached → ⊥) → LeafFinds p cuts cost g index (Cut id reached) (Some (Leaf index 4))
unfolding LeafFinds
cut_way_out p cuts cost g index id reached within source target way =
    inr (inl (within, refl), inr (inl (source, refl), inr (inl (target, refl), inr ((λ closed. way (λ a. leads_nowhere (is_arc p a) (g.forbidden id.0 a) (holds reached (tail_of p a)) (holds reached (head_of p a)) (closed.closed a))), refl))))

-- a leaf whose set has its demand's source, not its target, and no permitted way out, breaks no rule
pub cut_closed : (p : Parts) (cuts : List LoadCut) (cost : Option ℕ) (g : Region) (index : ℕ) (id : DemandId) (reached : List Bool) → id.0 < length p.demands → IsTrue (holds reached (demand_at p id.0).source)
    → holds reached (demand_at p id.0).target ≡ false → IsNoWayOut p g.forbidden id reached → LeafFinds p cuts cost g index (Cut id reached) None
cut_closed p cuts cost g index id reached within source target none =
    leaf_finds_none p cuts cost g index (Cut id reached) (record {
      demand = within;
      source = source;
      target = target;
      closed = λ a. stays_in (is_arc p a) (g.forbidden id.0 a) (holds reached (tail_of p a)) (holds reached (head_of p a)) (none a);
    })

-- of a leaf where a demand is far: there is no limit
pub far_no_limit : (p : Parts) (cuts : List LoadCut) (cost : Option ℕ) (g : Region) (index : ℕ) (id : DemandId) → (HasLimit p id → ⊥) → LeafFinds p cuts cost g index (Far id) (Some (Leaf index 1))
unfolding LeafFinds
far_no_limit p cuts cost g index id none = inl (refl, inr (none, refl))

-- what is told of a leaf where a demand with a limit has these fewest arcs
pub far_decided : (p : Parts) (cuts : List LoadCut) (cost : Option ℕ) (g : Region) (index : ℕ) (id : DemandId) (limit : ℕ) (fewest : Option ℕ) (past : Bool) (found : Option Rejected) → id.0 < length p.demands → (demand_at p id.0).hops ≡ Some limit
    → AreFewest p g.forbidden id.0 fewest → (IsTrue past ↔ IsPast fewest limit) → (IsTrue past → found ≡ None) → (IsFalse past → found ≡ Some (Leaf index 2)) → LeafFinds p cuts cost g index (Far id) found
unfolding LeafFinds
far_decided p cuts cost g index id limit fewest true found within hops is past ok broken =
    rw (ok refl) (leaf_finds_none p cuts cost g index (Far id) (record { demand = within; far = past-far p g.forbidden id.0 limit fewest hops is (past.0 refl) }))
far_decided p cuts cost g index id limit fewest false found within hops is past ok broken =
    let limited : HasLimit p id = record { demand = within; limit = subst (λ (h : Option ℕ). IsSome h) (sym hops) refl } in
    rw (broken refl) (inr (inl (limited, refl), inr ((λ closed. true≢false (sym (past.1 (far-past p g.forbidden id.0 limit fewest hops is closed.far)))), refl)))

least_price-one : (p : Parts) (r : Forbidden) (prices : List ℕ) (k a b : ℕ) → IsLeastPrice p r prices k a → IsLeastPrice p r prices k b → a ≡ b
least_price-one p r prices k a b ha hb =
    let to_b = ha.least hb.path hb.permitted in
    let to_a = hb.least ha.path ha.permitted in
    omega (arith, ha.attained, hb.attained)

price_total-one : (p : Parts) (r : Forbidden) (prices : List ℕ) (f g : ℕ → ℕ) → AreLeastPrices p r prices f → AreLeastPrices p r prices g → price_total p f ≡ price_total p g
price_total-one p r prices f g hf hg =
    sum_below-same (λ k. (demand_at p k).load * f k) (λ k. (demand_at p k).load * g k) (length p.demands)
    (λ k below. ap (λ x. (demand_at p k).load * x) (least_price-one p r prices k (f k) (g k) (hf k below) (hg k below)))

-- the demands ask for no more than there is
pub crowd_too_small : (p : Parts) (cuts : List LoadCut) (cost : Option ℕ) (g : Region) (index : ℕ) (prices : List ℕ) (total : ℕ) → AreWithinLimit p prices → AreFreeOnUseful p g.ranges prices → IsPriceTotal p g.forbidden prices total
    → (room_price p g.ranges prices < total → ⊥) → LeafFinds p cuts cost g index (Crowd prices) (Some (Leaf index 4))
unfolding LeafFinds
crowd_too_small p cuts cost g index prices total within free is small =
    inr (
      inl (within, refl),
      inr (
        inl (free, refl),
        inr (
          inl (paths_of_prices p g.forbidden prices is.least_prices is.are_least, refl),
          inr
              ((λ closed. small (subst (λ (t : ℕ). room_price p g.ranges prices < t) (price_total-one p g.forbidden prices closed.least_prices is.least_prices closed.are_least is.are_least ∙ sym is.is_total) closed.crowded)), refl),
        ),
      ),
    )

crowd_closes : (p : Parts) (g : Region) (prices : List ℕ) (total : ℕ) → AreWithinLimit p prices → AreFreeOnUseful p g.ranges prices → IsPriceTotal p g.forbidden prices total → room_price p g.ranges prices < total → ClosedByCrowd p g prices
crowd_closes p g prices total within free is more =
    record {
      within_limit = within;
      free = free;
      least_prices = is.least_prices;
      are_least = is.are_least;
      crowded = subst (λ (t : ℕ). room_price p g.ranges prices < t) is.is_total more;
    }

-- what is told of a leaf with a price total
pub crowd_decided : (p : Parts) (cuts : List LoadCut) (cost : Option ℕ) (g : Region) (index : ℕ) (prices : List ℕ) (total : ℕ) (crowded : Bool) (found : Option Rejected) → AreWithinLimit p prices → AreFreeOnUseful p g.ranges prices → IsPriceTotal p g.forbidden prices total
    → (IsTrue crowded ↔ (room_price p g.ranges prices < total)) → (IsTrue crowded → found ≡ None) → (IsFalse crowded → found ≡ Some (Leaf index 4)) → LeafFinds p cuts cost g index (Crowd prices) found
crowd_decided p cuts cost g index prices total true found within free is more ok broken = rw (ok refl) (leaf_finds_none p cuts cost g index (Crowd prices) (crowd_closes p g prices total within free is (more.0 refl)))
crowd_decided p cuts cost g index prices total false found within free is more ok broken = rw (broken refl) (crowd_too_small p cuts cost g index prices total within free is (λ crowded. true≢false (sym (more.1 crowded))))

-- of an open leaf: its numbers are not as they have to be
pub open_unlawful : (p : Parts) (cuts : List LoadCut) (cost : Option ℕ) (g : Region) (index : ℕ) (numbers : List ℕ) → (AreLawfulNumbers p cuts numbers → ⊥) → LeafFinds p cuts cost g index (Open numbers) (Some (Leaf index 1))
unfolding LeafFinds
open_unlawful p cuts cost g index numbers broken = inr (broken, refl)

-- an open leaf with prices and rates as they have to be breaks no rule
pub open_lawful : (p : Parts) (cuts : List LoadCut) (cost : Option ℕ) (g : Region) (index : ℕ) (numbers : List ℕ) → AreLawfulNumbers p cuts numbers → LeafFinds p cuts cost g index (Open numbers) None
open_lawful p cuts cost g index numbers lawful = leaf_finds_none p cuts cost g index (Open numbers) lawful

-- without a path an open leaf has no bound
pub open_unbounded : {E : Type 0} (p : Parts) (cuts : List LoadCut) (g : Region) (numbers : List ℕ) (found : Result (Option ℤ) E) → IfOk found (λ bound. IfNone bound (HavePaths p g.forbidden → ⊥))
    → IfOk found (λ bound. IfNone bound ((b : ℤ) → IsOpenBound p cuts g (Open numbers) b → ⊥))
open_unbounded p cuts g numbers (Ok None) none = λ b is. none (paths_of_prices p g.forbidden numbers is.least_prices is.are_least)
open_unbounded p cuts g numbers (Ok (Some b)) none = none
open_unbounded p cuts g numbers (Err e) none = none

-- what is told of a leaf that is to be closed by a cut, rule by rule
pub ruleset cut_findings = (cut_no_demand, cut_without_source, cut_with_target, cut_way_out, cut_closed)

-- what is told of an open leaf
pub ruleset open_findings = (open_unlawful, open_lawful)
