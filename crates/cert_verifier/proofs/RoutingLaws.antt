-- Only paths, what they load, and what that costs.
use Rattle.std.proofs.Common.{◌≡◌, ℕ, ◌<◌, ◌≤◌, inl, inr, max, List, length, slice_index, sym, ap, subst, ◌∙◌, arith}
use Rattle.plan_base.specs.declared.ids.ArcId.{ArcId}
use Rattle.plan_base.specs.declared.ids.LinkId.{LinkId}
use Rattle.plan_base.specs.declared.parts.Parts.{Parts}
use Rattle.plan_base.specs.declared.path.Design.{Design}
use Rattle.plan_base.specs.declared.limits.TheConstants.{MAX_PLACES}
use Rattle.plan_base.specs.Facts.{IsInstance}
use Rattle.plan_base.specs.Arcs.{demand_at}
use Rattle.plan_base.specs.Places.{places, there_of, back_of}
use Rattle.plan_base.specs.Designs.{path_at, load_at, need, KeepsLimit, KeepsLimits}
use Rattle.plan_base.proofs.SumsBelow.{sum_below-same}
use Rattle.plan_base.proofs.PlaceSums.{there-same, back-same, places-few}
use Rattle.link_steps.specs.Costs.{Carries, CannotCarry, IsLeastModuleCost, IsStepCost}
use Rattle.link_steps.specs.Ranges.{range_there, range_back, IsIn}
use Rattle.arc_restrict.specs.Restrictions.{Forbidden}
use Rattle.proof_tree.specs.Regions.{Region, AreInRange}
use Rattle.proof_tree.specs.Evidence.{AreOnlyPaths, CostEnough, ClosedByOverfull}
use Rattle.verifier_paths.specs.OnlyPaths.{HavePaths, HasSecond}
use Rattle.cert_verifier.specs.LeafRules.{HaveOnlyPaths, CanCarryAll}
use Rattle.cert_verifier.specs.Routings.{bare_design, needed, IsCostOfLoads, HasOverfull, AreLoadsInRange, IsOverloaded}
use Rattle.cert_verifier.proofs.OnlyLoads.{only_there, only_back, only_need}

-- these loads are those of the design
abbrev pub AreLoadsOf : Parts → Design → List ℕ → Type 0
AreLoadsOf p d loads = (q : ℕ) → q < places p → slice_index loads q ≡ load_at p d q

-- loads that are found of paths for each place there may be are those of the design of these paths
pub loads_are : (p : Parts) (paths : List (List ArcId)) (loads : List ℕ) → IsInstance p → ((q : ℕ) → q < MAX_PLACES → slice_index loads q ≡ load_at p (bare_design paths) q)
    → AreLoadsOf p (bare_design paths) loads
loads_are p paths loads inst found = λ q below. let few : places p ≤ MAX_PLACES = places-few p inst in found q (omega (arith, below, few))

there_is : (p : Parts) (d : Design) (loads : List ℕ) (e : ℕ) → e < length p.links → AreLoadsOf p d loads → there_of p (slice_index loads) e ≡ there_of p (load_at p d) e
there_is p d loads e within are_loads = there-same p (slice_index loads) (load_at p d) e within are_loads

back_is : (p : Parts) (d : Design) (loads : List ℕ) (e : ℕ) → e < length p.links → AreLoadsOf p d loads → back_of p (slice_index loads) e ≡ back_of p (load_at p d) e
back_is p d loads e within are_loads = back-same p (slice_index loads) (load_at p d) e within are_loads

-- the larger load of a link's places is what it needs
need_is : (p : Parts) (d : Design) (loads : List ℕ) (e : ℕ) → e < length p.links → AreLoadsOf p d loads → needed p loads e ≡ need p d e
need_is p d loads e within are_loads =
    ap (λ (x : ℕ). max x (back_of p (slice_index loads) e)) (there_is p d loads e within are_loads)
    ∙ ap (λ (y : ℕ). max (there_of p (load_at p d) e) y) (back_is p d loads e within are_loads)

-- where a design has the only paths, each demand has a permitted path
pub only_paths : (p : Parts) (r : Forbidden) (d : Design) → AreOnlyPaths p r d → HavePaths p r
only_paths p r d only k below = (path_at d k, (only k below).permitted)

-- a demand with a second path has no only one
pub not_only_paths : (p : Parts) (r : Forbidden) → HasSecond p r → HaveOnlyPaths p r → ⊥
not_only_paths p r more have = more.second (path_at have.0 more.demand) (have.1 more.demand more.within)

-- where the loads of the only paths have a cost, each link can carry what it needs for these paths
pub only_carry : (p : Parts) (r : Forbidden) (d : Design) (loads : List ℕ) (total : ℕ) → AreOnlyPaths p r d → AreLoadsOf p d loads → IsCostOfLoads p loads total → CanCarryAll p r
only_carry p r d loads total only are_loads is other only_other e below =
    let cost = is.are_costs e below in
    (cost.is_least.counts, subst (λ (load : ℕ). Carries p e load cost.is_least.counts) (need_is p d loads e below are_loads ∙ only_need p r d other e below only only_other) cost.is_least.carries)

-- where a link cannot carry its load of the only paths, not each link can carry what it needs
pub only_overfull : (p : Parts) (r : Forbidden) (d : Design) (loads : List ℕ) → AreOnlyPaths p r d → AreLoadsOf p d loads → HasOverfull p loads → CanCarryAll p r → ⊥
only_overfull p r d loads only are_loads over all =
    let can = all d only over.link over.within in
    over.overfull can.0 (subst (λ (load : ℕ). Carries p over.link load can.0) (sym (need_is p d loads over.link over.within are_loads)) can.1)

least_cost-unique : (p : Parts) (e load a b : ℕ) → IsLeastModuleCost p e load a → IsLeastModuleCost p e load b → a ≡ b
least_cost-unique p e load a b ha hb =
    let to_b = ha.least hb.counts hb.carries in
    let to_a = hb.least ha.counts ha.carries in
    omega (arith, ha.attained, hb.attained)

step_cost-unique : (p : Parts) (e load back a b : ℕ) → IsStepCost p e load back a → IsStepCost p e load back b → a ≡ b
step_cost-unique p e load back a b ha hb = omega (arith, ha.is_sum, hb.is_sum, least_cost-unique p e (max load back) ha.module_cost hb.module_cost ha.is_least hb.is_least)

-- equal loads cost the same
step_cost-moves : (p : Parts) (e load back other other_back cost : ℕ) → load ≡ other → back ≡ other_back → IsStepCost p e load back cost → IsStepCost p e other other_back cost
step_cost-moves p e load back other other_back cost there here is = subst (λ (x : ℕ). IsStepCost p e x other_back cost) there (subst (λ (y : ℕ). IsStepCost p e load y cost) here is)

-- where the loads of the only paths cost at least so much, the only paths do
pub routing_enough : (p : Parts) (r : Forbidden) (d : Design) (loads : List ℕ) (total cost : ℕ) → AreOnlyPaths p r d → AreLoadsOf p d loads → IsCostOfLoads p loads total → cost ≤ total → CostEnough p r cost
routing_enough p r d loads total cost only are_loads is enough =
    record {
      routing = d;
      only = only;
      step_costs = is.step_costs;
      are_costs = λ e below. step_cost-moves p e _ _ _ _ (is.step_costs e) (there_is p d loads e below are_loads) (back_is p d loads e below are_loads) (is.are_costs e below);
      enough = omega (arith, enough, is.is_sum);
    }

-- where the only paths cost at least so much, so do their loads
pub routing_cost : (p : Parts) (r : Forbidden) (d : Design) (loads : List ℕ) (total cost : ℕ) → AreOnlyPaths p r d → AreLoadsOf p d loads → IsCostOfLoads p loads total → CostEnough p r cost → cost ≤ total
routing_cost p r d loads total cost only are_loads is closed =
    let same = sum_below-same closed.step_costs is.step_costs (length p.links) (λ e below.
    step_cost-unique p e (there_of p (slice_index loads) e) (back_of p (slice_index loads) e) (closed.step_costs e) (is.step_costs e)
    (step_cost-moves p e _ _ _ _ (closed.step_costs e)
    (only_there p r closed.routing d e below closed.only only ∙ sym (there_is p d loads e below are_loads))
    (only_back p r closed.routing d e below closed.only only ∙ sym (back_is p d loads e below are_loads))
    (closed.are_costs e below))
    (is.are_costs e below)) in
    omega (arith, same, closed.enough, is.is_sum)

-- so other designs of the only paths keep the limits too
pub only_limits : (p : Parts) (r : Forbidden) (d other : Design) → AreOnlyPaths p r d → AreOnlyPaths p r other → KeepsLimits p other → KeepsLimits p d
only_limits p r d other only only_other keeps k within =
    subst (λ (arcs : List ArcId). KeepsLimit (demand_at p k).hops (length arcs)) (sym ((only_other k within).only (path_at d k) (only k within).permitted)) (keeps k within)

-- the loads of a link's places are in their ranges where those of the design are, and so the other way round
in_range : (p : Parts) (g : Region) (d : Design) (loads : List ℕ) (e : ℕ) → e < length p.links → AreLoadsOf p d loads → AreInRange p g.ranges d e
    → AreLoadsInRange p g.ranges loads e
in_range p g d loads e within are_loads h =
    (subst (λ (x : ℕ). IsIn (range_there p g.ranges e) x) (sym (there_is p d loads e within are_loads)) h.there, subst (λ (x : ℕ). IsIn (range_back p g.ranges e) x) (sym (back_is p d loads e within are_loads)) h.back)

from_range : (p : Parts) (g : Region) (d : Design) (loads : List ℕ) (e : ℕ) → e < length p.links → AreLoadsOf p d loads
    → AreLoadsInRange p g.ranges loads e → AreInRange p g.ranges d e
from_range p g d loads e within are_loads h =
    record { there = subst (λ (x : ℕ). IsIn (range_there p g.ranges e) x) (there_is p d loads e within are_loads) h.0; back = subst (λ (x : ℕ). IsIn (range_back p g.ranges e) x) (back_is p d loads e within are_loads) h.1 }

-- another design of the only paths has the same loads, so they are in range too
only_in_range : (p : Parts) (g : Region) (one other : Design) (e : ℕ) → e < length p.links → AreOnlyPaths p g.forbidden one → AreOnlyPaths p g.forbidden other → AreInRange p g.ranges one e → AreInRange p g.ranges other e
only_in_range p g one other e within first second h = record {
  there = subst (λ (x : ℕ). IsIn (range_there p g.ranges e) x) (only_there p g.forbidden one other e within first second) h.there;
  back = subst (λ (x : ℕ). IsIn (range_back p g.ranges e) x) (only_back p g.forbidden one other e within first second) h.back;
}

-- a link that cannot carry its load of the only paths, or has a load outside its range, closes the region
pub overfull_closes : (p : Parts) (g : Region) (d : Design) (loads : List ℕ) (link : LinkId) → AreOnlyPaths p g.forbidden d → AreLoadsOf p d loads → link.0 < length p.links → IsOverloaded p g.ranges loads link.0 → ClosedByOverfull p g link
overfull_closes p g d loads link only are_loads within over =
    record {
      routing = d;
      only = only;
      is_link = within;
      overfull = elim over [
        | inl cannot ↦ inl (subst (λ (load : ℕ). CannotCarry p link.0 load) (need_is p d loads link.0 within are_loads) cannot)
        | inr outside ↦ inr (λ h. outside (in_range p g d loads link.0 within are_loads h))
      ];
    }

-- and what closes it shows in the loads of any only paths
pub closed-overfull : (p : Parts) (g : Region) (d : Design) (loads : List ℕ) (link : LinkId) → AreOnlyPaths p g.forbidden d → AreLoadsOf p d loads → ClosedByOverfull p g link → IsOverloaded p g.ranges loads link.0
closed-overfull p g d loads link only are_loads closed = elim closed.overfull [
  | inl cannot ↦ inl (subst (λ (load : ℕ). CannotCarry p link.0 load) (sym (need_is p d loads link.0 closed.is_link are_loads ∙ only_need p g.forbidden d closed.routing link.0 closed.is_link only closed.only)) cannot)
  | inr outside ↦ inr (λ h. outside (only_in_range p g d closed.routing link.0 closed.is_link only closed.only (from_range p g d loads link.0 closed.is_link are_loads h)))
]
