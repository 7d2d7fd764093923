-- Potentials show that a price is least, and a closed set that there is no permitted path.
use Rattle.std.proofs.Common.{◌≡◌, ℕ, zero, suc, ◌+◌, ◌<◌, ◌≤◌, Bool, true, false, List, length, take, get_or, slice_index, refl, sym, ap, ◌∙◌, arith, add-one}
use Rattle.std.proofs.lemmas.List.{take_all}
use Rattle.std.proofs.lemmas.List.Sums.{sum_by_more}
use Rattle.plan_base.specs.declared.ids.ArcId.{ArcId}
use Rattle.plan_base.specs.declared.parts.Parts.{Parts}
use Rattle.plan_base.specs.Arcs.{tail_of, demand_at, no_arc}
use Rattle.plan_base.specs.Places.{place_of}
use Rattle.plan_base.specs.Paths.{arc_at, node_at}
use Rattle.arc_restrict.specs.Restrictions.{Forbidden, IsPermittedPath, HasNoPath}
use Rattle.arc_restrict.specs.Prices.{price_of}
use Rattle.path_pricing.specs.declared.priced.Priced.{Priced}
use Rattle.path_pricing.specs.declared.priced.Priced.TheVariants.{Path, NoPath}
use Rattle.path_pricing.specs.Priced.{is_open, price_at, ArePotentials, IsClosedSet, IsShown, IsPriced}

-- an arc of a permitted path is permitted
pub is_open-path : (p : Parts) (k : ℕ) (r : Forbidden) (arcs : List ArcId) (i : ℕ) → IsPermittedPath p r k arcs → i < length arcs → is_open p r k (arc_at arcs i) ≡ true
is_open-path p k r arcs i h within = rw (h.simple.are_arcs i within, h.permitted i no_arc within) refl

-- along a permitted path potentials rise by at most the prices
rises : (p : Parts) (prices : List ℕ) (k : ℕ) (r : Forbidden) (price : ℕ) (potentials : List ℕ) (arcs : List ArcId) → ArePotentials p prices k r price potentials
    → IsPermittedPath p r k arcs → (i : ℕ) → i ≤ length arcs → slice_index potentials (node_at p (demand_at p k).source arcs i) ≤ price_of p prices (take i arcs)
rises p prices k r price potentials arcs h path zero within = omega (arith, h.at_source)
rises p prices k r price potentials arcs h path (suc i) within =
    let a = arc_at arcs i in
    let before = rises p prices k r price potentials arcs h path i (omega arith) in
    let step = h.along a (is_open-path p k r arcs i path (omega arith)) in
    let tail : slice_index potentials (tail_of p a).0 ≡ slice_index potentials (node_at p (demand_at p k).source arcs i) = ap (slice_index potentials) (path.simple.goes_on i (omega arith)) in
    let more : price_of p prices (take (suc i) arcs) ≡ price_of p prices (take i arcs) + price_at p prices a =
    (let m = sum_by_more (λ (x : ArcId). slice_index prices (place_of p x)) arcs i no_arc (omega arith) in rw add-one at m) in
    omega (arith, before, step, tail, more)

-- no permitted path has a price below the target's potential
undercut-none : (p : Parts) (prices : List ℕ) (k : ℕ) (r : Forbidden) (price : ℕ) (potentials : List ℕ) → ArePotentials p prices k r price potentials → (other : List ArcId) → IsPermittedPath p r k other → price ≤ price_of p prices other
undercut-none p prices k r price potentials h other path =
    let up = rises p prices k r price potentials other h path (length other) (omega arith) in
    let end_ : slice_index potentials (node_at p (demand_at p k).source other (length other)) ≡ price = ap (slice_index potentials) path.simple.ends_at_target ∙ h.at_target in
    let whole : price_of p prices (take (length other) other) ≡ price_of p prices other = ap (price_of p prices) (take_all (length other) other (omega arith)) in
    omega (arith, up, end_, whole)

-- a permitted path does not leave a closed set
stays : (p : Parts) (k : ℕ) (r : Forbidden) (reached : List Bool) (arcs : List ArcId) → IsClosedSet p k r reached → IsPermittedPath p r k arcs → (i : ℕ) → i ≤ length arcs → get_or reached (node_at p (demand_at p k).source arcs i) false ≡ true
stays p k r reached arcs h path zero within = h.source
stays p k r reached arcs h path (suc i) within =
    let a = arc_at arcs i in
    let before = stays p k r reached arcs h path i (omega arith) in
    let tail : get_or reached (tail_of p a).0 false ≡ true = ap (λ (v : ℕ). get_or reached v false) (path.simple.goes_on i (omega arith)) ∙ before in
    h.closed a (is_open-path p k r arcs i path (omega arith)) tail

-- a closed set leaves no permitted path
HasNoPath-IsClosedSet : (p : Parts) (k : ℕ) (r : Forbidden) (reached : List Bool) → IsClosedSet p k r reached → HasNoPath p r k
HasNoPath-IsClosedSet p k r reached h arcs path =
    let last = stays p k r reached arcs h path (length arcs) (omega arith) in
    let at_target : get_or reached (demand_at p k).target.0 false ≡ true = ap (λ (v : ℕ). get_or reached v false) (sym path.simple.ends_at_target) ∙ last in
    (let bad : true ≡ false = sym at_target ∙ h.target in cc)

-- what is shown is so
pub IsPriced-IsShown : (p : Parts) (prices : List ℕ) (k : ℕ) (r : Forbidden) (found : Priced) → IsShown p prices k r found → IsPriced p prices k r found
IsPriced-IsShown p prices k r (Path path price potentials) h = record {
  permitted = h.permitted;
  price_is = h.price_is;
  least = record {
    path = path;
    permitted = h.permitted;
    attained = h.price_is;
    least = undercut-none p prices k r price potentials h.potentials_rise;
  };
}
IsPriced-IsShown p prices k r (NoPath reached) h = HasNoPath-IsClosedSet p k r reached h
