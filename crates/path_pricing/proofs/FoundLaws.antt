-- What a search finds with the prices of permitted arcs as weights is what is asked for.
use Rattle.std.proofs.Common.{◌≡◌, ℕ, ◌*◌, Bool, true, false, not, ◌&&◌, List, length, Option, None, refl, sym, subst, ◌∙◌, arith}
use Rattle.std.proofs.lemmas.List.Elements.{All-from_get_or}
use Rattle.plan_base.specs.declared.ids.ArcId.{ArcId}
use Rattle.plan_base.specs.declared.parts.Demand.{Demand}
use Rattle.plan_base.specs.declared.parts.Parts.{Parts}
use Rattle.path_pricing.specs.declared.priced.Priced.{Priced}
use Rattle.plan_base.specs.Arcs.{is_arc, demand_at, no_arc}
use Rattle.plan_base.specs.Paths.{arc_at}
use Rattle.arc_restrict.specs.Restrictions.{Forbidden, IsPermittedPath}
use Rattle.arc_restrict.specs.Prices.{price_of}
use Rattle.least_path.specs.declared.answer.Search.{Search}
use Rattle.least_path.specs.declared.answer.Search.TheVariants as searched
use Rattle.least_path.specs.Paths as least
use Rattle.path_pricing.specs.Priced.{ArePrices, price_at, ArePotentials, IsShown, IsPriced}
use Rattle.path_pricing.specs.Faults.{priced_fault}
use Rattle.path_pricing.specs.Weights.{weights_below, priced_of}
use Rattle.path_pricing.proofs.ShownLaws.{IsPriced-IsShown}
use Rattle.path_pricing.proofs.FaultLaws.{priced_fault-IsShown}
use Rattle.path_pricing.proofs.WeightLaws.{AreWeights-weights_below, IsUsable-open, open-IsUsable, weight_at-open, sum_by-same}

second : (a b : Bool) → (a && not b) ≡ true → b ≡ false
second true true h = absurd (let bad : false ≡ true = h in cc)
second true false h = refl
second false b h = absurd (let bad : false ≡ true = h in cc)

-- a usable path is a permitted path of the demand
pub IsPermittedPath-usable : (p : Parts) (prices : List ℕ) (k : ℕ) (r : Forbidden) (arcs : List ArcId) → least.IsUsablePath p (weights_below p prices k r (2 * length p.links)) (demand_at p k).source (demand_at p k).target arcs → IsPermittedPath p r k arcs
IsPermittedPath-usable p prices k r arcs h = record {
  simple = record {
    are_arcs = h.simple.are_arcs;
    goes_on = h.simple.goes_on;
    no_node_twice = h.simple.no_node_twice;
    ends_at_target = h.simple.ends_at_target;
  };
  permitted = All-from_get_or (λ a. r k a ≡ false) arcs no_arc (λ i within. second (is_arc p (arc_at arcs i)) (r k (arc_at arcs i)) (open-IsUsable p prices k r (arc_at arcs i) (h.usable i within)));
}

-- its weight is its price
pub price_of-usable : (p : Parts) (prices : List ℕ) (k : ℕ) (r : Forbidden) (arcs : List ArcId)
    → least.IsUsablePath p (weights_below p prices k r (2 * length p.links)) (demand_at p k).source (demand_at p k).target arcs → price_of p prices arcs ≡ least.weight_of (weights_below p prices k r (2 * length p.links)) arcs
price_of-usable p prices k r arcs h =
    let ws = weights_below p prices k r (2 * length p.links) in
    sum_by-same (price_at p prices) (least.weight_at ws) arcs (λ i within. sym (weight_at-open p prices k r (arc_at arcs i) (open-IsUsable p prices k r (arc_at arcs i) (h.usable i within))))

ArePotentials-found : (p : Parts) (prices : List ℕ) (k : ℕ) (r : Forbidden) (price : ℕ) (potentials : List ℕ) → least.ArePotentials p (weights_below p prices k r (2 * length p.links)) (demand_at p k).source (demand_at p k).target price potentials → ArePotentials p prices k r price potentials
ArePotentials-found p prices k r price potentials h = record {
  count = h.count;
  at_source = h.at_source;
  at_target = h.at_target;
  along = λ a is.
      let step = h.along a (IsUsable-open p prices k r a is) in
      let weight = weight_at-open p prices k r a is in
      omega (arith, step, weight);
}

-- what a search finds at the prices of permitted arcs has with it what shows it
pub IsShown-found : (p : Parts) (prices : List ℕ) (k : ℕ) (r : Forbidden) (found : Search) → least.IsFound p (weights_below p prices k r (2 * length p.links)) (demand_at p k).source (demand_at p k).target found → IsShown p prices k r (priced_of found)
IsShown-found p prices k r (searched.Path path price potentials) h = record {
  permitted = IsPermittedPath-usable p prices k r path h.0.path;
  price_is = price_of-usable p prices k r path h.0.path ∙ h.0.weight_is;
  potentials_rise = ArePotentials-found p prices k r price potentials h.1;
}
IsShown-found p prices k r (searched.NoPath reached) h = record {
  count = h.1.count;
  source = h.1.has_source;
  target = h.1.lacks_target;
  closed = λ a is tail. h.1.closed a (IsUsable-open p prices k r a is) tail;
}

-- the same, of values that are known by equations
pub found-weights : (p : Parts) (prices : List ℕ) (k : ℕ) (r : Forbidden) (ws : List (Option ℕ)) → ArePrices p prices → ws ≡ weights_below p prices k r (2 * length p.links) → least.AreWeights p ws
found-weights p prices k r ws fits is = subst (least.AreWeights p) (sym is) (AreWeights-weights_below p prices k r fits)

-- what a search found, with weights and demand known by equations, has with it what shows it
pub found-shown : (p : Parts) (prices : List ℕ) (k : ℕ) (r : Forbidden) (ws : List (Option ℕ)) (demand : Demand) (found : Search) (result : Priced)
    → ws ≡ weights_below p prices k r (2 * length p.links) → demand ≡ demand_at p k → least.IsFound p ws demand.source demand.target found → result ≡ priced_of found → IsShown p prices k r result
found-shown p prices k r ws demand found result ws_is demand_is h result_is =
    let one : least.IsFound p ws (demand_at p k).source (demand_at p k).target found = subst (λ (d : Demand). least.IsFound p ws d.source d.target found) demand_is h in
    let two : least.IsFound p (weights_below p prices k r (2 * length p.links)) (demand_at p k).source (demand_at p k).target found = subst (λ (w : List (Option ℕ)). least.IsFound p w (demand_at p k).source (demand_at p k).target found) ws_is one in
    subst (IsShown p prices k r) (sym result_is) (IsShown-found p prices k r found two)

-- what a search found is so: a least path of the demand, or that there is no permitted path
pub found-priced : (p : Parts) (prices : List ℕ) (k : ℕ) (r : Forbidden) (ws : List (Option ℕ)) (demand : Demand) (found : Search) (result : Priced)
    → ws ≡ weights_below p prices k r (2 * length p.links) → demand ≡ demand_at p k → least.IsFound p ws demand.source demand.target found → result ≡ priced_of found → IsPriced p prices k r result
found-priced p prices k r ws demand found result ws_is demand_is h result_is =
    IsPriced-IsShown p prices k r result (found-shown p prices k r ws demand found result ws_is demand_is h result_is)

-- what a search found has no fault
pub found-accepted : (p : Parts) (prices : List ℕ) (k : ℕ) (r : Forbidden) (ws : List (Option ℕ)) (demand : Demand) (found : Search) (result : Priced)
    → ws ≡ weights_below p prices k r (2 * length p.links) → demand ≡ demand_at p k → least.IsFound p ws demand.source demand.target found → result ≡ priced_of found → priced_fault p prices k r result ≡ None
found-accepted p prices k r ws demand found result ws_is demand_is h result_is =
    priced_fault-IsShown p prices k r result (found-shown p prices k r ws demand found result ws_is demand_is h result_is)

-- what is found at weights that are prices is shown, is so and has no fault, of values known by equations
pub ruleset found_laws = (found-weights, found-shown, found-priced, found-accepted)
