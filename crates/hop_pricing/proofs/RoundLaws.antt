-- What rounds find with the prices of permitted arcs as weights is what is asked for.
use Rattle.std.proofs.Common.{◌≡◌, ℕ, ◌≤◌, ◌*◌, Bool, true, false, not, ◌&&◌, List, length, refl, sym, ◌∙◌, subst}
use Rattle.plan_base.specs.declared.ids.ArcId.{ArcId}
use Rattle.plan_base.specs.declared.parts.Demand.{Demand}
use Rattle.plan_base.specs.declared.parts.Parts.{Parts}
use Rattle.plan_base.specs.Arcs.{is_arc, demand_at, no_arc}
use Rattle.plan_base.specs.Paths.{arc_at}
use Rattle.arc_restrict.specs.Restrictions.{Forbidden, IsPermittedPath}
use Rattle.least_path.specs.Paths.{Weights, IsUsablePath}
use Rattle.limited_path.specs.Within as limited
use Rattle.path_pricing.specs.Weights.{weights_below}
use Rattle.path_pricing.proofs.WeightLaws.{IsUsable-open}
use Rattle.path_pricing.proofs.FoundLaws.{IsPermittedPath-usable, price_of-usable}
use Rattle.hop_pricing.specs.Within.{IsPermittedWithin, IsLeastWithin, HasNoneWithin}

-- the weights of the arcs that are permitted to the demand
abbrev weights_of : Parts → List ℕ → ℕ → Forbidden → Weights
weights_of p prices k r = weights_below p prices k r (2 * length p.links)

and-not : (a b : Bool) → a ≡ true → b ≡ false → (a && not b) ≡ true
and-not a b is isnt = rw (is, isnt) refl

-- a permitted path of the demand is usable
usable-IsPermittedPath : (p : Parts) (prices : List ℕ) (k : ℕ) (r : Forbidden) (arcs : List ArcId) → IsPermittedPath p r k arcs → IsUsablePath p (weights_of p prices k r) (demand_at p k).source (demand_at p k).target arcs
usable-IsPermittedPath p prices k r arcs h = record {
  simple = record {
    are_arcs = h.simple.are_arcs;
    goes_on = h.simple.goes_on;
    no_node_twice = h.simple.no_node_twice;
    ends_at_target = h.simple.ends_at_target;
  };
  usable = λ i within. IsUsable-open p prices k r (arc_at arcs i) (and-not (is_arc p (arc_at arcs i)) (r k (arc_at arcs i)) (h.simple.are_arcs i within) (h.permitted i no_arc within));
}

-- the same within a limit
limited-IsPermittedWithin : (p : Parts) (prices : List ℕ) (k hops : ℕ) (r : Forbidden) (arcs : List ArcId) → IsPermittedWithin p r k hops arcs → limited.IsPathWithin p (weights_of p prices k r) (demand_at p k).source (demand_at p k).target hops arcs
limited-IsPermittedWithin p prices k hops r arcs h = record { path = usable-IsPermittedPath p prices k r arcs h.permitted; short = h.short }

least : (p : Parts) (prices : List ℕ) (k hops : ℕ) (r : Forbidden) (arcs : List ArcId) (price : ℕ) → limited.IsLeastWithin p (weights_of p prices k r) (demand_at p k).source (demand_at p k).target hops arcs price → IsLeastWithin p r prices k hops arcs price
least p prices k hops r arcs price h = record {
  within = record { permitted = IsPermittedPath-usable p prices k r arcs h.within.path; short = h.within.short };
  price_is = price_of-usable p prices k r arcs h.within.path ∙ h.weight_is;
  least = λ other within.
      let way = limited-IsPermittedWithin p prices k hops r other within in
      subst (λ (n : ℕ). price ≤ n) (sym (price_of-usable p prices k r other way.path)) (h.least other way);
}

-- the same, of values that are known by equations
pub least-found : (p : Parts) (prices : List ℕ) (k hops : ℕ) (r : Forbidden) (ws : Weights) (d : Demand) (arcs : List ArcId) (price : ℕ) → ws ≡ weights_below p prices k r (2 * length p.links) → d ≡ demand_at p k
    → limited.IsLeastWithin p ws d.source d.target hops arcs price → IsLeastWithin p r prices k hops arcs price
least-found p prices k hops r ws d arcs price ws_is d_is h =
    least p prices k hops r arcs price
    (subst (λ (x : Demand). limited.IsLeastWithin p (weights_of p prices k r) x.source x.target hops arcs price) d_is
    (subst (λ (x : Weights). limited.IsLeastWithin p x d.source d.target hops arcs price) ws_is h))

-- where no weighted path has so few arcs, no permitted path has
pub none-found : (p : Parts) (prices : List ℕ) (k hops : ℕ) (r : Forbidden) (ws : Weights) (d : Demand) → ws ≡ weights_below p prices k r (2 * length p.links) → d ≡ demand_at p k
    → limited.HasNoneWithin p ws d.source d.target hops → HasNoneWithin p r k hops
none-found p prices k hops r ws d ws_is d_is h arcs within =
    subst (λ (x : Demand). limited.HasNoneWithin p (weights_of p prices k r) x.source x.target hops) d_is
    (subst (λ (x : Weights). limited.HasNoneWithin p x d.source d.target hops) ws_is h)
    arcs (limited-IsPermittedWithin p prices k hops r arcs within)
