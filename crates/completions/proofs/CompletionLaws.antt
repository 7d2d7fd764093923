-- Links completed one by one make the cheapest design.
use Rattle.std.proofs.Common.{◌≡◌, ℕ, ◌+◌, ◌*◌, ◌<◌, ◌≤◌, max, slice_index, inl, inr, List, [], ◌∷◌, ◌++◌, length, slice_index_or, if◌then◌else◌, refl, sym, ap, subst, ◌∙◌, arith}
use Rattle.std.proofs.Math.Seq.{get_or-append_seam}
use Rattle.std.proofs.Math.Nat.{mul-le-mul_left}
use Rattle.std.proofs.lemmas.List.{length-append, get_or_append_left}
use Rattle.plan_base.specs.declared.ids.ArcId.{ArcId}
use Rattle.plan_base.specs.declared.parts.Parts.{Parts}
use Rattle.plan_base.specs.declared.path.Design.{Design}
use Rattle.plan_base.specs.declared.loads.LinkLoads.{LinkLoads}
use Rattle.plan_base.specs.declared.limits.TheConstants.{MAX_ROUTING_COST, MAX_PLACES}
use Rattle.plan_base.specs.Sums.{sum_below}
use Rattle.plan_base.specs.Facts.{total_load, IsInstance}
use Rattle.plan_base.specs.Arcs.{link_at, demand_at, no_link}
use Rattle.plan_base.specs.Places.{places, link_of_place, there_of, back_of}
use Rattle.plan_base.specs.Paths.{uses_place}
use Rattle.plan_base.specs.Designs.{load_from, load_at, need, carried, counts_at, module_cost_with, link_cost, cost_of, AreCountsInShape, IsDesign, CarriesLoads}
use Rattle.plan_base.proofs.SumLaws.{sum_below-next}
use Rattle.plan_base.proofs.SumsBelow.{sum_below-same, sum_below-le}
use Rattle.plan_base.proofs.PlaceSums.{there-same, back-same, places-few}
use Rattle.link_steps.specs.declared.range.LoadRange.{LoadRange}
use Rattle.link_steps.specs.Ranges.{IsIn, range_at}
use Rattle.link_steps.specs.Costs.{Carries, CanCarry, CannotCarry, IsLeastModuleCost, AreLeastCounts}
use Rattle.link_steps.proofs.Order.{before_or_last}
use Rattle.completions.specs.Completions.{with_paths, ArePaths, IsCompletion, CarryLoads, HasOverfull, IsFirstOverfull, AreInside, HasOutside}
use Rattle.completions.specs.Links.{IsLinkCompletion, counts_in, cost_with, AreCompletedTo}

-- the routing cost of a load up to the total load is small
pub routing-within : (p : Parts) (e load : ℕ) → IsInstance p → e < length p.links → load ≤ total_load p → (link_at p e).routing * load ≤ MAX_ROUTING_COST
routing-within p e load lawful within low =
    let product : (link_at p e).routing * load ≤ (link_at p e).routing * total_load p = mul-le-mul_left (link_at p e).routing low in
    omega (arith, product, lawful.routing e no_link within)

-- that of two such loads is at most twice as much
pub both-within : (p : Parts) (e there back : ℕ) → IsInstance p → e < length p.links → max there back ≤ total_load p → (link_at p e).routing * (there + back) ≤ 2 * MAX_ROUTING_COST
both-within p e there back lawful within low =
    let one = routing-within p e there lawful within (omega arith) in
    let two = routing-within p e back lawful within (omega arith) in
    omega arith

load_from-paths : (p : Parts) (d other : Design) (q k : ℕ) → d.paths ≡ other.paths → load_from p d q k ≡ load_from p other q k
unfolding load_from
load_from-paths p d other q k same =
    ap (λ (paths : List (List ArcId)). if uses_place p q (slice_index_or paths k []) then (demand_at p k).load else 0) same

-- designs with the same paths have the same loads
pub load_at-paths : (p : Parts) (d other : Design) (q : ℕ) → d.paths ≡ other.paths → load_at p d q ≡ load_at p other q
load_at-paths p d other q same =
    sum_below-same (load_from p d q) (load_from p other q) (length p.demands) (λ k within. load_from-paths p d other q k same)

module _ (p : Parts) (d other : Design) (e : ℕ) (within : e < length p.links) (same : d.paths ≡ other.paths) where
  same_there : there_of p (load_at p d) e ≡ there_of p (load_at p other) e
  same_there = there-same p (load_at p d) (load_at p other) e within (λ q below. load_at-paths p d other q same)

  same_back : back_of p (load_at p d) e ≡ back_of p (load_at p other) e
  same_back = back-same p (load_at p d) (load_at p other) e within (λ q below. load_at-paths p d other q same)

  -- and their links need the same capacity and carry as much
  pub need-paths : need p d e ≡ need p other e
  need-paths = rw (same_there, same_back) refl

  -- the links of designs with the same paths carry the same loads
  pub carried-paths : carried p d e ≡ carried p other e
  carried-paths = rw (same_there, same_back) refl

-- the loads of a link's places are those that a design's paths put on them
pub record HasLoads (p : Parts) (d : Design) (e : ℕ) (held : LinkLoads) : Type 0 where
  pub there_is : held.there ≡ there_of p (load_at p d) e
  pub back_is : held.back ≡ back_of p (load_at p d) e

-- they are read from a list
pub loads-read : (p : Parts) (d : Design) (e : ℕ) (held : LinkLoads) (loads : List ℕ) → IsInstance p → e < length p.links → ((q : ℕ) → q < MAX_PLACES → slice_index loads q ≡ load_at p d q)
    → held.there ≡ there_of p (slice_index loads) e → held.back ≡ back_of p (slice_index loads) e → HasLoads p d e held
loads-read p d e held loads lawful within are there_is back_is =
    let same : (q : ℕ) → q < places p → slice_index loads q ≡ load_at p d q = λ q below. are q (omega (arith, below, places-few p lawful)) in
    record {
      there_is = there_is ∙ there-same p (slice_index loads) (load_at p d) e within same;
      back_is = back_is ∙ back-same p (slice_index loads) (load_at p d) e within same;
    }

module _ (p : Parts) (d : Design) (e : ℕ) (loads : LinkLoads) (within : e < length p.links) (held : HasLoads p d e loads) where
  needed : max loads.there loads.back ≡ need p (with_paths d.paths) e
  needed =
      let read : max loads.there loads.back ≡ need p d e = rw (held.there_is, held.back_is) refl in
      read ∙ need-paths p d (with_paths d.paths) e within refl

  -- the link here is the first one that cannot carry what it needs
  pub overfull-here : CannotCarry p e (max loads.there loads.back) → CarryLoads p d.paths e → IsFirstOverfull p d.paths e
  overfull-here cannot before = record { within = within; overfull = subst (CannotCarry p e) needed cannot; before = before }

  -- some link cannot carry what it needs
  pub overfull-found : CannotCarry p e (max loads.there loads.back) → HasOverfull p d.paths
  overfull-found cannot = record { link = e; within = within; overfull = subst (CannotCarry p e) needed cannot }

  -- the link here can carry what it needs too
  pub carry-next : CanCarry p e (max loads.there loads.back) → CarryLoads p d.paths e → CarryLoads p d.paths (e + 1)
  carry-next can before = λ other below.
      elim (before_or_last other e below) [
        | inl earlier ↦ before other earlier
        | inr here ↦ rw here (subst (CanCarry p e) needed can)
      ]

module _ (p : Parts) (ranges : List LoadRange) (d : Design) (q load : ℕ) (is_load : load ≡ load_at p d q) where
  loaded : load ≡ load_at p (with_paths d.paths) q
  loaded = is_load ∙ load_at-paths p d (with_paths d.paths) q refl

  -- the link of the place here has a load outside its range
  pub outside-here : (link : ℕ) → q < places p → link ≡ link_of_place p q → (IsIn (range_at ranges q) load → ⊥) → HasOutside p ranges d.paths link
  outside-here link within is_link outside =
      record { place = q; within = within; is_link = is_link; outside = λ inside. outside (subst (IsIn (range_at ranges q)) (sym loaded) inside) }

  -- the load of the place here is in its range too
  pub inside-next : IsIn (range_at ranges q) load → AreInside p ranges d.paths q → AreInside p ranges d.paths (q + 1)
  inside-next inside before = λ other below.
      elim (before_or_last other q below) [
        | inl earlier ↦ before other earlier
        | inr here ↦ rw here (subst (IsIn (range_at ranges q)) loaded inside)
      ]

-- one link more
AreCompletedTo-push : (p : Parts) (paths : List (List ArcId)) (n cost more : ℕ) (all : List (List ℕ)) (counts : List ℕ) → AreCompletedTo p paths n cost all
    → IsLinkCompletion p n (there_of p (load_at p (with_paths paths)) n) (back_of p (load_at p (with_paths paths)) n) more counts → AreCompletedTo p paths (n + 1) (cost + more) (all ++ counts ∷ [])
AreCompletedTo-push p paths n cost more all counts before here =
    let long = before.list_count in
    let old : (e : ℕ) → e < n → counts_in (all ++ counts ∷ []) e ≡ counts_in all e = λ e below. get_or_append_left all (counts ∷ []) [] e (omega arith) in
    let new : counts_in (all ++ counts ∷ []) n ≡ counts = ap (λ (k : ℕ). counts_in (all ++ counts ∷ []) k) (sym long) ∙ get_or-append_seam all counts [] [] in
    let rest : sum_below (cost_with p paths all) n ≡ sum_below (cost_with p paths (all ++ counts ∷ [])) n =
    sum_below-same (cost_with p paths all) (cost_with p paths (all ++ counts ∷ [])) n (λ e below. rw (old e below) refl) in
    let last : cost_with p paths (all ++ counts ∷ []) n ≡ more = rw new (sym here.is_cost) in
    record {
      list_count = omega (arith, length-append all (counts ∷ []));
      least = λ e below.
          elim (before_or_last e n below) [
            | inl earlier ↦ rw (old e earlier) (before.least e earlier)
            | inr is ↦ rw (is, new) here.least
          ];
      in_shape = λ e below.
          elim (before_or_last e n below) [
            | inl earlier ↦ rw (old e earlier) (before.in_shape e earlier)
            | inr is ↦ rw (is, new) here.in_shape
          ];
      is_cost = omega (arith, sum_below-next (cost_with p paths (all ++ counts ∷ [])) n, rest, last, before.is_cost);
    }

-- one link more, completed for its loads in a design
pub completed-more : (p : Parts) (d : Design) (n cost : ℕ) (loads : LinkLoads) (more : ℕ) (all : List (List ℕ)) (counts : List ℕ) → n < length p.links → HasLoads p d n loads → AreCompletedTo p d.paths n cost all
    → IsLinkCompletion p n loads.there loads.back more counts → AreCompletedTo p d.paths (n + 1) (cost + more) (all ++ counts ∷ [])
completed-more p d n cost loads more all counts within held before here =
    let there_is = held.there_is ∙ same_there p d (with_paths d.paths) n within refl in
    let back_is = held.back_is ∙ same_back p d (with_paths d.paths) n within refl in
    AreCompletedTo-push p d.paths n cost more all counts before (rw (there_is, back_is) at here)

-- the least module cost is what least counts cost
pub link-completed : (p : Parts) (e there back routing modules : ℕ) (counts : List ℕ) → routing ≡ (link_at p e).routing * (there + back) → IsLeastModuleCost p e (max there back) modules
    → AreLeastCounts p e (max there back) counts → AreCountsInShape (link_at p e) counts → IsLinkCompletion p e there back (routing + modules) counts
link-completed p e there back routing modules counts is least counted in_shape = record {
  least = counted;
  in_shape = in_shape;
  is_cost = omega (arith, is, least.attained, counted.least least.counts least.carries, least.least counts counted.carries);
}

-- the design of the paths and of counts for all links
abbrev pub completed : List (List ArcId) → List (List ℕ) → Design
completed paths all = record { paths = paths; counts = all }

module _ (p : Parts) (paths : List (List ArcId)) (cost : ℕ) (all : List (List ℕ))
    (are_paths : ArePaths p paths) (done : AreCompletedTo p paths (length p.links) cost all) where
  -- each link of the completed design has least counts for what it needs
  pub least-completed : (e : ℕ) → e < length p.links → AreLeastCounts p e (need p (completed paths all) e) (counts_at (completed paths all) e)
  least-completed e within = subst (λ (load : ℕ). AreLeastCounts p e load (counts_in all e)) (sym (need-paths p (completed paths all) (with_paths paths) e within refl)) (done.least e within)

  cost-completed : cost ≡ cost_of p (completed paths all)
  cost-completed =
      done.is_cost ∙ sum_below-same (cost_with p paths all) (link_cost p (completed paths all)) (length p.links)
      (λ e within. ap (λ (load : ℕ). (link_at p e).routing * load + module_cost_with (link_at p e) (counts_in all e)) (sym (carried-paths p (completed paths all) (with_paths paths) e within refl)))

  no-cheaper : (other : Design) → other.paths ≡ paths → IsDesign p other → CarriesLoads p other → cost ≤ cost_of p other
  no-cheaper other same design carries =
      let each : (e : ℕ) → e < length p.links → cost_with p paths all e ≤ link_cost p other e = λ e within.
      (let needs : need p other e ≡ need p (with_paths paths) e = need-paths p other (with_paths paths) e within same in
      let enough : Carries p e (need p (with_paths paths) e) (counts_at other e) = record { count = design.counts e within; lawful = design.lawful e within; enough = omega (arith, needs, carries e within) } in
      let less = (done.least e within).least (counts_at other e) enough in
      let routing : (link_at p e).routing * carried p other e ≡ (link_at p e).routing * carried p (with_paths paths) e = ap (λ (load : ℕ). (link_at p e).routing * load) (carried-paths p other (with_paths paths) e within same) in
      omega (arith, less, routing)) in
      omega (arith, done.is_cost, sum_below-le (cost_with p paths all) (link_cost p other) (length p.links) each)

  -- the paths with least counts for each link are their completion: no design with them costs less
  pub IsCompletion-completed : IsCompletion p paths cost (completed paths all)
  IsCompletion-completed = record {
    same_paths = refl;
    carried = record {
      design = record {
        path_count = are_paths.count;
        list_count = done.list_count;
        paths = are_paths.simple;
        counts = λ e within. (done.least e within).carries.count;
        lawful = λ e within. (done.least e within).carries.lawful;
      };
      carried = λ e within. (least-completed e within).carries.enough;
      in_shape = done.in_shape;
    };
    is_cost = cost-completed;
    least = no-cheaper;
  }
