-- Loads that are added arc by arc, and demand by demand.
use Rattle.std.proofs.Common.{◌≡◌, ◌≢◌, ℕ, ◌+◌, ◌<◌, ◌≤◌, ◌⊎◌, inl, inr, Bool, true, false, ◌||◌, ◌==◌, List, [], length, get_or, slice_index, take, if◌then◌else◌, refl, sym, ap, ◌∙◌, arith, add-one}
use Rattle.std.specs.List.{list_any}
use Rattle.std.proofs.Math.ListN.{set}
use Rattle.std.proofs.lemmas.Bool.{eq-eqb, ne_eqb}
use Rattle.std.proofs.lemmas.List.{get_or_default, get_or-take, length-take-le, get_or-set_same, get_or-set_other}
use Rattle.std.proofs.lemmas.List.Folds.{list_any_more, list_any_none}
use Rattle.plan_base.specs.declared.ids.ArcId.{ArcId}
use Rattle.std.proofs.lemmas.List.Sums.{sum_by-take-le}
use Rattle.plan_base.specs.declared.parts.Demand.{Demand}
use Rattle.plan_base.specs.declared.parts.Parts.{Parts}
use Rattle.plan_base.specs.declared.path.Design.{Design}
use Rattle.plan_base.specs.declared.limits.TheConstants.{MAX_PLACES, MAX_TOTAL_LOAD}
use Rattle.plan_base.specs.Facts.{IsInstance}
use Rattle.plan_base.specs.Arcs.{no_arc, demand_at}
use Rattle.plan_base.specs.Places.{place_of}
use Rattle.plan_base.specs.Paths.{arc_at, uses_by, IsSimplePath}
use Rattle.plan_base.specs.Sums.{sum_below}
use Rattle.plan_base.specs.Designs.{path_at, load_from}
use Rattle.plan_base.specs.Walks.{HasOnce, HasPlacesOnce}
use Rattle.plan_base.proofs.LoadLaws.{load_at-le-taken}
use Rattle.plan_base.proofs.PlaceSums.{places-few}
use Rattle.plan_base.proofs.PathSums.{HasPlacesOnce-simple}

-- the arcs before a place do not use its number
pub unused-before : (kind : ArcId → ℕ) (n : ℕ) (arcs : List ArcId) (i : ℕ) → HasOnce kind n arcs → i < length arcs → uses_by kind (kind (arc_at arcs i)) (take i arcs) ≡ false
unused-before kind n arcs i once within =
    list_any_none (λ a. kind a == kind (arc_at arcs i)) (take i arcs) (λ j d below.
    let j_in : j < i = omega (arith, below, length-take-le i arcs (omega arith)) in
    let is_j : get_or (take i arcs) j d ≡ arc_at arcs j = get_or-take i arcs j d j_in ∙ get_or_default arcs j d no_arc (omega arith) in
    rw is_j (ne_eqb _ _ (λ same. absurd (let e : j ≡ i = once.once j i (omega arith) within same in omega arith))))

same_or_not : (m n : ℕ) → (m ≡ n) ⊎ (m ≢ n)
same_or_not m n = grind arith

-- what the first arcs put on a number of their kind
abbrev pub added : (ArcId → ℕ) → List ArcId → ℕ → ℕ → ℕ
added kind arcs load e = if uses_by kind e arcs then load else 0

-- one arc more
pub added-next : (kind : ArcId → ℕ) (loads old : List ℕ) (arcs : List ArcId) (load i : ℕ) (d : ArcId) → HasOnce kind MAX_PLACES arcs → i < length arcs → length loads ≡ MAX_PLACES
    → ((e : ℕ) → e < MAX_PLACES → slice_index loads e ≡ slice_index old e + added kind (take i arcs) load e) → (e : ℕ) → e < MAX_PLACES
    → slice_index (set loads (kind (get_or arcs i d)) (slice_index loads (kind (get_or arcs i d)) + load)) e ≡ slice_index old e + added kind (take (i + 1) arcs) load e
added-next kind loads old arcs load i d once within size so_far e inside =
    let a = get_or arcs i d in
    let same : a ≡ arc_at arcs i = get_or_default arcs i d no_arc within in
    let test = λ (x : ArcId). kind x == e in
    let longer : list_any test (take (i + 1) arcs) ≡ (list_any test (take i arcs) || test a) = list_any_more test arcs i d within in
    let a_in : kind a < length loads = rw same (omega (arith, once.within i within)) in
    elim (same_or_not e (kind a)) [
      | inl is ↦
          (let none : uses_by kind (kind a) (take i arcs) ≡ false = rw same (unused-before kind MAX_PLACES arcs i once within) in
          let here : slice_index (set loads (kind a) (slice_index loads (kind a) + load)) (kind a) ≡ slice_index loads (kind a) + load = get_or-set_same {A = ℕ} loads (kind a) (slice_index loads (kind a) + load) 0 a_in in
          let old_here = so_far (kind a) (omega arith) in
          let nothing : added kind (take i arcs) load (kind a) ≡ 0 = rw none refl in
          let uses_now : list_any (λ (x : ArcId). kind x == kind a) (take (i + 1) arcs) ≡ true = list_any_more (λ (x : ArcId). kind x == kind a) arcs i d within ∙ rw (none, eq-eqb (kind a) (kind a) refl) refl in
          let whole : added kind (take (i + 1) arcs) load (kind a) ≡ load = rw uses_now refl in
          rw is (omega arith))
      | inr other ↦
          (let there : slice_index (set loads (kind a) (slice_index loads (kind a) + load)) e ≡ slice_index loads e = get_or-set_other {A = ℕ} loads (kind a) e (slice_index loads (kind a) + load) 0 other in
          let not_here : test a ≡ false = ne_eqb (kind a) e (λ is. other (sym is)) in
          let uses_now : list_any test (take (i + 1) arcs) ≡ list_any test (take i arcs) = longer ∙ rw not_here (or_false (list_any test (take i arcs))) in
          let equal : added kind (take (i + 1) arcs) load e ≡ added kind (take i arcs) load e = ap (λ b. if b then load else 0) uses_now in
          there ∙ so_far e inside ∙ ap (λ n. slice_index old e + n) (sym equal))
    ]
  where
    or_false : (b : Bool) → (b || false) ≡ b
    or_false true = refl
    or_false false = refl

-- a simple path uses each of at most so many places once
pub HasPlacesOnce-path : (p : Parts) (d : Design) (k : ℕ) → IsInstance p → IsSimplePath p (demand_at p k) (path_at d k) → HasPlacesOnce p MAX_PLACES (path_at d k)
HasPlacesOnce-path p d k inst simple =
    let h = HasPlacesOnce-simple p (demand_at p k) (path_at d k) simple in
    record { within = λ i below. omega (arith, h.within i below, places-few p inst); once = h.once }

-- the first demands put at most the greatest total load on a place
pub part-within : (p : Parts) (d : Design) (e n : ℕ) → IsInstance p → n ≤ length p.demands → sum_below (load_from p d e) n ≤ MAX_TOTAL_LOAD
part-within p d e n inst within =
    omega (arith, load_at-le-taken p d e n within, sum_by-take-le (λ (k : Demand). k.load) p.demands n, inst.total)

-- one demand more
pub load-next : (p : Parts) (d : Design) (e n now before load : ℕ) (arcs : List ArcId) → before ≡ sum_below (load_from p d e) n → arcs ≡ path_at d n → load ≡ (demand_at p n).load → now ≡ before + added (place_of p) arcs load e → now ≡ sum_below (load_from p d e) (n + 1)
unfolding load_from
load-next p d e n now before load arcs is_before is_path is_load is_now =
    rw add-one (is_now ∙ rw (is_before, is_path, is_load) refl)

-- a path as the loop reads it
pub path-read : (d : Design) (k : ℕ) (paths : List (List ArcId)) (item arcs : List ArcId) → k < length d.paths → paths ≡ d.paths → item ≡ get_or paths k item → arcs ≡ item → arcs ≡ path_at d k
path-read d k paths item arcs within is_paths is_item is_arcs =
    is_arcs ∙ is_item ∙ ap (λ (ps : List (List ArcId)). get_or ps k item) is_paths ∙ get_or_default d.paths k item [] within
