-- Demands that are laid and taken off, and the loads of those that are laid.
use Rattle.std.proofs.Common.{◌≡◌, ℕ, ◌+◌, ◌*◌, ◌-◌, ◌<◌, ◌≤◌, inl, inr, min, Bool, true, false, cond, if◌then◌else◌, ◌==◌, List, [], length, slice_index, refl, sym, ap, ◌∙◌, arith, eq-eqb, ne_eqb, replicate}
use Rattle.std.proofs.Math.ListN.{set}
use Rattle.std.proofs.lemmas.List.{get_or-set_same, get_or-set_other, get_or-replicate}
use Rattle.plan_base.specs.declared.ids.ArcId.{ArcId}
use Rattle.plan_base.specs.declared.parts.Parts.{Parts}
use Rattle.plan_base.specs.declared.path.Design.{Design}
use Rattle.plan_base.specs.declared.limits.TheConstants.{MAX_PLACES, MAX_TOTAL_LOAD}
use Rattle.plan_base.specs.Sums.{sum_below}
use Rattle.plan_base.specs.Facts.{IsInstance}
use Rattle.plan_base.specs.Arcs.{demand_at}
use Rattle.plan_base.specs.Places.{place_of}
use Rattle.plan_base.specs.Paths.{uses_place, IsSimplePath}
use Rattle.plan_base.specs.Designs.{path_at, load_from}
use Rattle.plan_base.specs.Walks.{HasPlacesOnce}
use Rattle.plan_base.proofs.SumsBelow.{sum_below-change, sum_below-zero, sum_below-same, sum_below-le}
use Rattle.plan_base.proofs.PathSums.{taken, sum_by-taken}
use Rattle.plan_base.proofs.AddedLoads.{HasPlacesOnce-path}
use Rattle.plan_base.proofs.LoadLaws.{load_at-le-total}
use Rattle.link_steps.proofs.Order.{same_or_not}
use Rattle.completions.specs.Completions.{with_paths, ArePaths}
use Rattle.demand_routing.specs.Traffic.{arcs_along}
use Rattle.demand_routing.specs.Routings.{is_marked, laid_on, AreLoads}

nothing : (b : Bool) (x : ℕ) → x ≡ 0 → (if b then x else 0) ≡ 0
nothing true x none = none
nothing false x none = refl

-- a path that uses each place once has one arc of it at most
along-once : (p : Parts) (n q : ℕ) (arcs : List ArcId) → HasPlacesOnce p n arcs → q < n → arcs_along p q arcs ≡ (if uses_place p q arcs then 1 else 0)
along-once p n q arcs once within =
    let one = λ (i : ℕ). cond (i == q) 1 0 in
    let sum : arcs_along p q arcs ≡ sum_below (taken (place_of p) one arcs) n = sum_by-taken (place_of p) one n arcs once in
    let change : sum_below (taken (place_of p) one arcs) n + 0 ≡ sum_below (λ (i : ℕ). 0) n + taken (place_of p) one arcs q =
    sum_below-change (taken (place_of p) one arcs) (λ (i : ℕ). 0) n q within (λ i below other. nothing (uses_place p i arcs) (one i) (rw (ne_eqb i q other) refl)) in
    let none : sum_below (λ (i : ℕ). 0) n ≡ 0 = sum_below-zero (λ (i : ℕ). 0) n (λ i below. refl) in
    let here : taken (place_of p) one arcs q ≡ (if uses_place p q arcs then 1 else 0) = rw (eq-eqb q q refl) refl in
    omega (arith, sum, change, none, here)

-- what a demand puts on a place, from the arcs of its path that are of it
from-along : (p : Parts) (d : Design) (q k : ℕ) → IsInstance p → IsSimplePath p (demand_at p k) (path_at d k) → q < MAX_PLACES → arcs_along p q (path_at d k) * (demand_at p k).load ≡ load_from p d q k
unfolding load_from
from-along p d q k inst simple within =
    rw (along-once p MAX_PLACES q (path_at d k) (HasPlacesOnce-path p d k inst simple) within) (by_cases (uses_place p q (path_at d k)) (demand_at p k).load)
  where
    by_cases : (b : Bool) (load : ℕ) → (if b then 1 else 0) * load ≡ (if b then load else 0)
    by_cases true load = omega arith
    by_cases false load = omega arith

-- one mark is set
laid-change : (p : Parts) (paths : List (List ArcId)) (laid : List Bool) (q k : ℕ) (mark : Bool) → k < length p.demands
    → sum_below (laid_on p paths (set laid k mark) q) (length p.demands) + laid_on p paths laid q k ≡ sum_below (laid_on p paths laid q) (length p.demands) + laid_on p paths (set laid k mark) q k
laid-change p paths laid q k mark within =
    sum_below-change (laid_on p paths (set laid k mark) q) (laid_on p paths laid q) (length p.demands) k within
    (λ i below other. ap (λ (b : Bool). if b then load_from p (with_paths paths) q i else 0) (get_or-set_other laid k i mark false other))

-- the demands that are laid put at most the total load on a place
laid-within : (p : Parts) (paths : List (List ArcId)) (laid : List Bool) (q : ℕ) → IsInstance p → sum_below (laid_on p paths laid q) (length p.demands) ≤ MAX_TOTAL_LOAD
laid-within p paths laid q inst =
    let less = sum_below-le (laid_on p paths laid q) (load_from p (with_paths paths) q) (length p.demands) (λ i below. by_cases (is_marked laid i) (load_from p (with_paths paths) q i)) in
    omega (arith, less, load_at-le-total p (with_paths paths) q, inst.total)
  where
    by_cases : (b : Bool) (x : ℕ) → (if b then x else 0) ≤ x
    by_cases true x = omega arith
    by_cases false x = omega arith

module _ (p : Parts) (paths : List (List ArcId)) (laid : List Bool) (loads new : List ℕ) (k load : ℕ) (arcs : List ArcId)
    (inst : IsInstance p) (are : ArePaths p paths) (within : k < length p.demands) (marks : length laid ≡ length p.demands)
    (is_load : load ≡ (demand_at p k).load) (is_path : arcs ≡ path_at (with_paths paths) k) (before : AreLoads p paths laid loads) where
  share : (q : ℕ) → q < MAX_PLACES → arcs_along p q arcs * load ≡ load_from p (with_paths paths) q k
  share q below = rw (is_load, is_path) (from-along p (with_paths paths) q k inst (are.simple k within) below)

  loads-on : is_marked laid k ≡ false → ((q : ℕ) → q < MAX_PLACES → slice_index new q ≡ min (slice_index loads q + arcs_along p q arcs * load) 340282366920938463463374607431768211455) → AreLoads p paths (set laid k true) new
  loads-on off step = λ q below.
      let change = laid-change p paths laid q k true within in
      let old : laid_on p paths laid q k ≡ 0 = rw off refl in
      let now : laid_on p paths (set laid k true) q k ≡ load_from p (with_paths paths) q k = rw (get_or-set_same laid k true false (omega arith)) refl in
      omega (arith, change, old, now, share q below, before q below, step q below, laid-within p paths (set laid k true) q inst)

  loads-off : is_marked laid k ≡ true → ((q : ℕ) → q < MAX_PLACES → slice_index new q ≡ slice_index loads q - arcs_along p q arcs * load) → AreLoads p paths (set laid k false) new
  loads-off on step = λ q below.
      let change = laid-change p paths laid q k false within in
      let old : laid_on p paths laid q k ≡ load_from p (with_paths paths) q k = rw on refl in
      let now : laid_on p paths (set laid k false) q k ≡ 0 = rw (get_or-set_same laid k false false (omega arith)) refl in
      omega (arith, change, old, now, share q below, before q below, step q below)

  -- a demand is laid or taken off
  pub loads-changed : (mark : Bool) → is_marked laid k ≡ (if mark then false else true) → ((q : ℕ) → q < MAX_PLACES → slice_index new q
      ≡ (if mark then min (slice_index loads q + arcs_along p q arcs * load) 340282366920938463463374607431768211455 else slice_index loads q - arcs_along p q arcs * load)) → AreLoads p paths (set laid k mark) new
  loads-changed true off step = loads-on off step
  loads-changed false on step = loads-off on step

load_from-same : (p : Parts) (d other : Design) (q k : ℕ) → path_at d k ≡ path_at other k → load_from p d q k ≡ load_from p other q k
unfolding load_from
load_from-same p d other q k same = ap (λ (arcs : List ArcId). if uses_place p q arcs then (demand_at p k).load else 0) same

-- a demand that is off is given another path
pub loads-same : (p : Parts) (paths : List (List ArcId)) (laid : List Bool) (loads : List ℕ) (k : ℕ) (path : List ArcId) → is_marked laid k ≡ false → AreLoads p paths laid loads → AreLoads p (set paths k path) laid loads
loads-same p paths laid loads k path off before = λ q below.
    before q below ∙
    sum_below-same (laid_on p paths laid q) (laid_on p (set paths k path) laid q) (length p.demands) (λ i within.
    elim (same_or_not i k) [
      | inl here ↦ rw (here, off) refl
      | inr other ↦ ap (λ (x : ℕ). if is_marked laid i then x else 0) (load_from-same p (with_paths paths) (with_paths (set paths k path)) q i (sym (get_or-set_other paths k i path [] other)))
    ])

-- nothing is laid
pub loads-none : (p : Parts) (paths : List (List ArcId)) (n : ℕ) (loads : List ℕ) → n ≡ length p.demands → ((q : ℕ) → q < MAX_PLACES → slice_index loads q ≡ 0) → AreLoads p paths (replicate n false) loads
loads-none p paths n loads is zero = λ q below.
    zero q below ∙ sym (sum_below-zero (laid_on p paths (replicate n false) q) (length p.demands) (λ k within. rw (get_or-replicate n k false false (omega arith)) refl))
