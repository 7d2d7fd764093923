-- The loads of the demands that cross a set are on the places that cross it.
use Rattle.std.proofs.Common.{◌≡◌, ℕ, zero, suc, ◌+◌, ◌*◌, ◌/◌, ◌%◌, ◌<◌, ◌≤◌, ◌⊎◌, inl, inr, Bool, true, false, ◌&&◌, ◌||◌, ◌==◌, List, length, slice_index_or, if◌then◌else◌, nat_lt, refl, sym, ap, subst, ◌∙◌, arith}
use Rattle.std.specs.List.{list_any}
use Rattle.std.proofs.lemmas.Bool.{eq-eqb}
use Rattle.std.proofs.lemmas.List.{get_or_default}
use Rattle.std.proofs.lemmas.List.Folds.{Any-from_list_any, list_any_at}
use Rattle.plan_base.specs.declared.ids.ArcId.{ArcId}
use Rattle.plan_base.specs.declared.parts.Orient.{Orient}
use Rattle.plan_base.specs.declared.parts.Orient.TheVariants.{Directed, Undirected, Bidirected}
use Rattle.plan_base.specs.declared.parts.Demand.{Demand}
use Rattle.plan_base.specs.declared.parts.Parts.{Parts}
use Rattle.plan_base.specs.declared.path.Design.{Design}
use Rattle.plan_base.specs.Sums.{sum_below}
use Rattle.plan_base.specs.Arcs.{goes_back, demand_at, link_of, is_arc, tail_of, head_of, no_arc}
use Rattle.plan_base.specs.Paths.{arc_at, node_at, uses_place, IsSimplePath}
use Rattle.plan_base.specs.Places.{is_two_way, places, place_of}
use Rattle.plan_base.specs.Designs.{path_at, load_from, load_at}
use Rattle.plan_base.proofs.Bools.{list_any-false_at}
use Rattle.plan_base.proofs.PathSums.{place-within}
use Rattle.plan_base.proofs.SumsBelow.{sum_below-zero, sum_below-same, sum_below-le, sum_below-swap, term-le-sum_below}
use Rattle.proof_tree.specs.NodeSets.{holds}
use Rattle.proof_tree.specs.Cuts.{is_shared, leaves_by, leaves, place_crosses, demand_crosses, crossing_load}

-- each path of the design is a simple path of its demand
abbrev pub HasSimplePaths : Parts → Design → Type 0
HasSimplePaths p d = (k : ℕ) → k < length p.demands → IsSimplePath p (demand_at p k) (path_at d k)

-- Not leaving a set is reflexive and transitive.

leaves-same : (both a : Bool) → leaves_by both a a ≡ false
leaves-same true true = refl
leaves-same true false = refl
leaves-same false true = refl
leaves-same false false = refl

leaves-trans : (both a b c : Bool) → leaves_by both a b ≡ false → leaves_by both b c ≡ false → leaves_by both a c ≡ false
leaves-trans both true b true h k = leaves-same both true
leaves-trans both false b false h k = leaves-same both false
leaves-trans both true true false h k = k
leaves-trans both true false false h k = h
leaves-trans both false true true h k = h
leaves-trans both false false true h k = k

leaves-turned : (a b : Bool) → leaves_by true a b ≡ false → leaves_by true b a ≡ false
leaves-turned true true h = h
leaves-turned true false h = h
leaves-turned false true h = h
leaves-turned false false h = h

-- An arc leaves a set only where its place crosses it.

even_or_odd : (n : ℕ) → (n ≡ 2 * (n / 2)) ⊎ (n ≡ 2 * (n / 2) + 1)
even_or_odd n = grind arith

-- the arc of this number
abbrev arc_of_number : ℕ → ArcId
arc_of_number n = record { 0 = n }

arc-is : (a : ArcId) (n : ℕ) → a.0 ≡ n → a ≡ arc_of_number n
arc-is a n h = ap arc_of_number h

-- an arc against its link's direction has the ends of the one along it
record IsTurned (p : Parts) (a b : ArcId) : Type 0 where
  tail : tail_of p a ≡ head_of p b
  head : head_of p a ≡ tail_of p b

arc-turned : (p : Parts) (e : ℕ) → IsTurned p (arc_of_number (2 * e + 1)) (arc_of_number (2 * e))
arc-turned p e =
    let odd : (2 * e + 1) % 2 ≡ 1 = omega arith in
    let even : (2 * e) % 2 ≡ 0 = omega arith in
    let first : (2 * e) / 2 ≡ e = omega arith in
    let second : (2 * e + 1) / 2 ≡ e = omega arith in
    record { tail = rw (odd, even, first, second) refl; head = rw (odd, even, first, second) refl }

arc-crosses : (p : Parts) (nodes : List Bool) (a : ArcId) → is_arc p a ≡ true → place_crosses p nodes (place_of p a) ≡ false → leaves p nodes (tail_of p a) (head_of p a) ≡ false
arc-crosses p nodes a exists = by_orient p.orient exists
  where
    along : (both : Bool) (n : ℕ) → a.0 ≡ n → leaves_by both (holds nodes (tail_of p (arc_of_number n))) (holds nodes (head_of p (arc_of_number n))) ≡ false → leaves_by both (holds nodes (tail_of p a)) (holds nodes (head_of p a)) ≡ false
    along both n same h = subst (λ (b : ArcId). leaves_by both (holds nodes (tail_of p b)) (holds nodes (head_of p b)) ≡ false) (sym (arc-is a n same)) h

    against : (e : ℕ) → a.0 ≡ 2 * e + 1 → leaves_by true (holds nodes (tail_of p (arc_of_number (2 * e)))) (holds nodes (head_of p (arc_of_number (2 * e)))) ≡ false → leaves_by true (holds nodes (tail_of p a)) (holds nodes (head_of p a)) ≡ false
    against e same h =
        let turned = arc-turned p e in
        along true (2 * e + 1) same (rw (turned.tail, turned.head) (leaves-turned _ _ h))

    not_odd : (n : ℕ) → (n % 2 == 0 || false) ≡ true → n ≡ 2 * (n / 2)
    not_odd n h = elim (even_or_odd n) [
      | inl even ↦ even
      | inr odd ↦ absurd (let one : n % 2 ≡ 1 = omega arith in let bad : false ≡ true = rw one at h in cc)
    ]

    second : (x y : Bool) → (x && y) ≡ true → y ≡ true
    second true y h = h
    second false y h = absurd (let bad : false ≡ true = h in cc)

    by_orient : (o : Orient) → (nat_lt (link_of a) (length p.links) && (a.0 % 2 == 0 || goes_back o)) ≡ true
        → leaves_by (is_shared o) (holds nodes (tail_of p (arc_of_number (if is_two_way o then (if is_two_way o then a.0 else link_of a) else 2 * (if is_two_way o then a.0 else link_of a)))))
        (holds nodes (head_of p (arc_of_number (if is_two_way o then (if is_two_way o then a.0 else link_of a) else 2 * (if is_two_way o then a.0 else link_of a))))) ≡ false
        → leaves_by (is_shared o) (holds nodes (tail_of p a)) (holds nodes (head_of p a)) ≡ false
    by_orient Bidirected exists h = along false a.0 refl h
    by_orient Directed exists h = along false (2 * (a.0 / 2)) (not_odd a.0 (second _ _ exists)) h
    by_orient Undirected exists h = elim (even_or_odd a.0) [
      | inl even ↦ along true (2 * (a.0 / 2)) even h
      | inr odd ↦ against (a.0 / 2) odd h
    ]

-- A path that uses no place that crosses a set does not leave it.
stays : (p : Parts) (nodes : List Bool) (k : Demand) (arcs : List ArcId) → IsSimplePath p k arcs → ((i : ℕ) → i < length arcs → place_crosses p nodes (place_of p (arc_at arcs i)) ≡ false)
    → (i : ℕ) → i ≤ length arcs → leaves_by (is_shared p.orient) (holds nodes k.source) (slice_index_or nodes (node_at p k.source arcs i) false) ≡ false
stays p nodes k arcs simple none zero within = leaves-same (is_shared p.orient) (holds nodes k.source)
stays p nodes k arcs simple none (suc i) within =
    let arc = arc_at arcs i in
    let before = stays p nodes k arcs simple none i (omega arith) in
    let step = arc-crosses p nodes arc (simple.are_arcs i (omega arith)) (none i (omega arith)) in
    let from = subst (λ (n : ℕ). leaves_by (is_shared p.orient) (slice_index_or nodes n false) (holds nodes (head_of p arc)) ≡ false) (simple.goes_on i (omega arith)) step in
    leaves-trans (is_shared p.orient) (holds nodes k.source) (slice_index_or nodes (node_at p k.source arcs i) false) (holds nodes (head_of p arc)) before from

-- a place that crosses the set and that the path uses
record Crosses (p : Parts) (nodes : List Bool) (arcs : List ArcId) : Type 0 where
  place : ℕ
  within : place < places p
  used : uses_place p place arcs ≡ true
  crosses : place_crosses p nodes place ≡ true

path-crosses : (p : Parts) (nodes : List Bool) (k : ℕ) (arcs : List ArcId) → IsSimplePath p (demand_at p k) arcs → demand_crosses p nodes k ≡ true → Crosses p nodes arcs
path-crosses p nodes k arcs simple crossing = by_found (list_any test arcs) refl
  where
    test : ArcId → Bool
    test a = place_crosses p nodes (place_of p a)

    by_found : (b : Bool) → list_any test arcs ≡ b → Crosses p nodes arcs
    by_found true is =
        let found = Any-from_list_any test arcs is in
        let i = found.0 in
        let below : i < length arcs = found.2 in
        let same : arc_at arcs i ≡ found.1 = get_or_default arcs i no_arc found.1 below ∙ found.3 in
        record {
          place = place_of p (arc_at arcs i);
          within = place-within p (arc_at arcs i) (simple.are_arcs i below);
          used = list_any_at (λ (a : ArcId). place_of p a == place_of p (arc_at arcs i)) arcs i no_arc below (eq-eqb _ _ refl);
          crosses = subst (λ (a : ArcId). test a ≡ true) (sym same) found.4;
        }
    by_found false is =
        let inside = stays p nodes (demand_at p k) arcs simple (λ i below. list_any-false_at test arcs i no_arc below is) (length arcs) (omega arith) in
        let at_end : demand_crosses p nodes k ≡ false = subst (λ (n : ℕ). leaves_by (is_shared p.orient) (holds nodes (demand_at p k).source) (slice_index_or nodes n false) ≡ false) simple.ends_at_target inside in
        absurd (let bad : true ≡ false = sym crossing ∙ at_end in cc)

-- what the demand puts on the places that cross the set
abbrev crossing_from : Parts → List Bool → Design → ℕ → ℕ → ℕ
crossing_from p nodes d k q = if place_crosses p nodes q then load_from p d q k else 0

demand-crosses : (p : Parts) (nodes : List Bool) (d : Design) (k : ℕ) → IsSimplePath p (demand_at p k) (path_at d k)
    → (if demand_crosses p nodes k then (demand_at p k).load else 0) ≤ sum_below (crossing_from p nodes d k) (places p)
unfolding load_from
demand-crosses p nodes d k simple = by_cases (demand_crosses p nodes k) refl
  where
    by_cases : (b : Bool) → demand_crosses p nodes k ≡ b → (if b then (demand_at p k).load else 0) ≤ sum_below (crossing_from p nodes d k) (places p)
    by_cases false is = omega arith
    by_cases true is =
        let found = path-crosses p nodes k (path_at d k) simple is in
        let term = term-le-sum_below (crossing_from p nodes d k) (places p) found.place found.within in
        let here : crossing_from p nodes d k found.place ≡ (demand_at p k).load = rw (found.crosses, found.used) refl in
        omega (arith, term, here)

-- a sum where a test holds
sum-where : (b : Bool) (f : ℕ → ℕ) (n : ℕ) → sum_below (λ k. if b then f k else 0) n ≡ (if b then sum_below f n else 0)
sum-where true f n = refl
sum-where false f n = sum_below-zero (λ k. 0) n (λ k below. refl)

-- the loads of the demands that cross the set are on the places that cross it
pub crossing_load-le : (p : Parts) (nodes : List Bool) (d : Design) → HasSimplePaths p d → crossing_load p nodes ≤ sum_below (λ q. if place_crosses p nodes q then load_at p d q else 0) (places p)
crossing_load-le p nodes d simple =
    let m = length p.demands in
    let n = places p in
    let each = sum_below-le (λ k. if demand_crosses p nodes k then (demand_at p k).load else 0) (λ k. sum_below (crossing_from p nodes d k) n) m
    (λ k below. demand-crosses p nodes d k (simple k below)) in
    let swapped = sum_below-swap (crossing_from p nodes d) m n in
    let whole = sum_below-same (λ q. sum_below (λ k. crossing_from p nodes d k q) m) (λ q. if place_crosses p nodes q then load_at p d q else 0) n
    (λ q below. sum-where (place_crosses p nodes q) (load_from p d q) m) in
    omega (arith, each, swapped, whole)
