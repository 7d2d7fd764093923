-- Routes and simple paths, and a path that goes on along a route.
use Rattle.std.proofs.Common.{◌≡◌, ◌≢◌, ℕ, zero, suc, ◌<◌, ◌≤◌, Bool, true, false, not, ◌&&◌, List, [], ◌∷◌, ◌++◌, length, take, Option, Some, None, refl, sym, ap, subst, ◌∙◌, arith, IsTrue}
use Rattle.std.specs.List.{AllByRecursion}
use Rattle.std.proofs.lemmas.Bool.{eqb-false}
use Rattle.std.proofs.lemmas.List.{length-take-le}
use Rattle.std.proofs.lemmas.List.Elements.{All-append, All-take, All-cons, All-nil}
use Rattle.std.proofs.Math.Seq.{get_or-append_seam}
use Rattle.plan_base.specs.declared.ids.NodeId.{NodeId}
use Rattle.plan_base.specs.declared.ids.ArcId.{ArcId}
use Rattle.plan_base.specs.declared.parts.Demand.{Demand}
use Rattle.plan_base.specs.declared.parts.Parts.{Parts}
use Rattle.plan_base.specs.Arcs.{is_arc, tail_of, head_of, demand_at, no_arc}
use Rattle.plan_base.specs.Paths.{arc_at, node_at, IsSimplePath}
use Rattle.plan_base.proofs.Bools.{and-first}
use Rattle.arc_restrict.specs.Restrictions.{Forbidden, IsPermitted, IsPermittedPath}
use Rattle.second_path.specs.Ways.{is_left_out, may_take}
use Rattle.second_path.specs.Others.{holds, IsOtherPath}
use Rattle.second_path.specs.Searching.{Avoids, IsRoute, IsFree, IsFreeRoute}
use Rattle.second_path.proofs.Routes.{from_same}

-- ---- a list of arcs without its first

shift : (p : Parts) (s : NodeId) (a : ArcId) (arcs : List ArcId) (i : ℕ) → node_at p (head_of p a) arcs i ≡ node_at p s (a ∷ arcs) (suc i)
shift p s a arcs zero = refl
shift p s a arcs (suc i) = refl

avoids_at : (p : Parts) (v : ℕ) (arcs : List ArcId) → Avoids p v arcs → (i : ℕ) → i < length arcs → (head_of p (arc_at arcs i)).0 ≢ v
avoids_at p v [] h i within = absurd (omega (arith, within))
avoids_at p v (a ∷ arcs) h zero within = h.0
avoids_at p v (a ∷ arcs) h (suc i) within = avoids_at p v arcs h.1 i (omega (arith, within))

avoids_from : (p : Parts) (v : ℕ) (arcs : List ArcId) → ((i : ℕ) → i < length arcs → (head_of p (arc_at arcs i)).0 ≢ v) → Avoids p v arcs
avoids_from p v [] h = tt
avoids_from p v (a ∷ arcs) h = (h 0 (omega arith), avoids_from p v arcs (λ i within. h (suc i) (omega (arith, within))))

avoids_take : (p : Parts) (v : ℕ) (arcs : List ArcId) (i : ℕ) → Avoids p v arcs → Avoids p v (take i arcs)
avoids_take p v [] zero h = tt
avoids_take p v [] (suc i) h = tt
avoids_take p v (a ∷ arcs) zero h = tt
avoids_take p v (a ∷ arcs) (suc i) h = (h.0, avoids_take p v arcs i h.1)

avoids_append : (p : Parts) (v : ℕ) (arcs more : List ArcId) → Avoids p v arcs → Avoids p v more → Avoids p v (arcs ++ more)
avoids_append p v [] more h g = g
avoids_append p v (a ∷ arcs) more h g = (h.0, avoids_append p v arcs more h.1 g)

-- ---- simple paths are routes

-- a demand from one node to another
abbrev between : NodeId → NodeId → Demand
between s t = record { source = s; target = t; load = 0; hops = None }

rest_of : (p : Parts) (s t : NodeId) (a : ArcId) (arcs : List ArcId) → IsSimplePath p (between s t) (a ∷ arcs) → IsSimplePath p (between (head_of p a) t) arcs
rest_of p s t a arcs h = record {
  are_arcs = λ i within. h.are_arcs (suc i) (omega (arith, within));
  goes_on = λ i within. h.goes_on (suc i) (omega (arith, within)) ∙ sym (shift p s a arcs i);
  no_node_twice = λ i j before within same. h.no_node_twice (suc i) (suc j) (omega (arith, before)) (omega (arith, within)) (sym (shift p s a arcs i) ∙ same ∙ shift p s a arcs j);
  ends_at_target = shift p s a arcs (length arcs) ∙ h.ends_at_target;
}

route_of : (p : Parts) (s t : NodeId) (arcs : List ArcId) → IsSimplePath p (between s t) arcs → IsRoute p s t arcs
route_of p s t [] h = h.ends_at_target
route_of p s t (a ∷ arcs) h = (
  h.are_arcs 0 (omega arith),
  h.goes_on 0 (omega arith),
  avoids_from p s.0 (a ∷ arcs) (λ i within same. h.no_node_twice 0 (suc i) (omega arith) (omega (arith, within)) (sym same)),
  route_of p (head_of p a) t arcs (rest_of p s t a arcs h),
)

cons_path : (p : Parts) (s t : NodeId) (a : ArcId) (arcs : List ArcId) → IsTrue (is_arc p a) → (tail_of p a).0 ≡ s.0 → Avoids p s.0 (a ∷ arcs) → IsSimplePath p (between (head_of p a) t) arcs → IsSimplePath p (between s t) (a ∷ arcs)
cons_path p s t a arcs is_an_arc leaves new rest = record {
  are_arcs = are;
  goes_on = on;
  no_node_twice = twice;
  ends_at_target = sym (shift p s a arcs (length arcs)) ∙ rest.ends_at_target;
}
  where
    are : (i : ℕ) → i < length (a ∷ arcs) → IsTrue (is_arc p (arc_at (a ∷ arcs) i))
    are zero within = is_an_arc
    are (suc i) within = rest.are_arcs i (omega (arith, within))

    on : (i : ℕ) → i < length (a ∷ arcs) → (tail_of p (arc_at (a ∷ arcs) i)).0 ≡ node_at p s (a ∷ arcs) i
    on zero within = leaves
    on (suc i) within = rest.goes_on i (omega (arith, within)) ∙ shift p s a arcs i

    twice : (i j : ℕ) → i < j → j ≤ length (a ∷ arcs) → node_at p s (a ∷ arcs) i ≢ node_at p s (a ∷ arcs) j
    twice i zero before within same = absurd (omega (arith, before))
    twice zero (suc j) before within same = avoids_at p s.0 (a ∷ arcs) new j (omega (arith, within)) (sym same)
    twice (suc i) (suc j) before within same = rest.no_node_twice i j (omega (arith, before)) (omega (arith, within)) (shift p s a arcs i ∙ same ∙ sym (shift p s a arcs j))

path_of : (p : Parts) (s t : NodeId) (arcs : List ArcId) → IsRoute p s t arcs → IsSimplePath p (between s t) arcs
path_of p s t [] h = record {
  are_arcs = λ i within. absurd (omega (arith, within));
  goes_on = λ i within. absurd (omega (arith, within));
  no_node_twice = λ i j before within. absurd (omega (arith, before, within));
  ends_at_target = h;
}
path_of p s t (a ∷ arcs) h = cons_path p s t a arcs h.0 h.1 h.2 (path_of p (head_of p a) t arcs h.3)

-- a route from a demand's source to its target is a simple path of the demand
pub simple_of_route : (p : Parts) (k : Demand) (arcs : List ArcId) → IsRoute p k.source k.target arcs → IsSimplePath p k arcs
simple_of_route p k arcs h =
    let is = path_of p k.source k.target arcs h in
    record { are_arcs = is.are_arcs; goes_on = is.goes_on; no_node_twice = is.no_node_twice; ends_at_target = is.ends_at_target }

route_of_simple : (p : Parts) (k : Demand) (arcs : List ArcId) → IsSimplePath p k arcs → IsRoute p k.source k.target arcs
route_of_simple p k arcs h = route_of p k.source k.target arcs
    (record { are_arcs = h.are_arcs; goes_on = h.goes_on; no_node_twice = h.no_node_twice; ends_at_target = h.ends_at_target })

-- ---- a path that leaves another

join : (p : Parts) (s t m : NodeId) (arcs : List ArcId) (i : ℕ) (way : List ArcId) → IsRoute p s t arcs → i ≤ length arcs → m.0 ≡ node_at p s arcs i
    → IsRoute p m t way → ((j : ℕ) → j ≤ i → Avoids p (node_at p s arcs j) way) → IsRoute p s t (take i arcs ++ way)
join p s t m [] zero way h within is_m route off = from_same p s m t way is_m route
join p s t m [] (suc i) way h within is_m route off = absurd (omega (arith, within))
join p s t m (a ∷ arcs) zero way h within is_m route off = from_same p s m t way is_m route
join p s t m (a ∷ arcs) (suc i) way h within is_m route off = (
  h.0,
  h.1,
  (h.2.0, avoids_append p s.0 (take i arcs) way (avoids_take p s.0 arcs i h.2.1) (off 0 (omega arith))),
  join p (head_of p a) t m arcs i way h.3 (omega (arith, within)) (is_m ∙ sym (shift p s a arcs i)) route
      (λ j upto. subst (λ v. Avoids p v way) (sym (shift p s a arcs j)) (off (suc j) (omega (arith, upto)))),
)

-- ---- what may be taken

not_true : (b : Bool) → not b ≡ true → b ≡ false
not_true true h = cc
not_true false h = refl

and_second : (a b : Bool) → (a && b) ≡ true → b ≡ true
and_second true b h = h
and_second false b h = cc

-- an arc that may be taken is not forbidden
pub taken_permitted : (p : Parts) (r : Forbidden) (k : ℕ) (out : Option ArcId) (a : ArcId) → may_take p r k out a ≡ true → r k a ≡ false
unfolding may_take
taken_permitted p r k out a h = not_true (r k a) (and-first _ _ (and_second (is_arc p a) _ h))

-- an arc that may be taken is not the one to be left out
pub taken_not_left_out : (p : Parts) (r : Forbidden) (k : ℕ) (out : Option ArcId) (a : ArcId) → may_take p r k out a ≡ true → is_left_out out a ≡ false
unfolding may_take
taken_not_left_out p r k out a h = not_true (is_left_out out a) (and_second (not (r k a)) _ (and_second (is_arc p a) _ h))

all_permitted : (p : Parts) (r : Forbidden) (k : ℕ) (out : Option ArcId) (first : List Bool) (arcs : List ArcId) → AllByRecursion (IsFree p (may_take p r k out) first) arcs → IsPermitted r k arcs
all_permitted p r k out first [] h = All-nil (λ a. r k a ≡ false)
all_permitted p r k out first (a ∷ arcs) h = All-cons (λ b. r k b ≡ false) a arcs (taken_permitted p r k out a h.0.0) (all_permitted p r k out first arcs h.1)

off_first : (p : Parts) (takes : ArcId → Bool) (first : List Bool) (v : ℕ) (arcs : List ArcId) → holds first v ≡ true → AllByRecursion (IsFree p takes first) arcs → Avoids p v arcs
off_first p takes first v [] is h = tt
off_first p takes first v (a ∷ arcs) is h = (λ same. h.0.1 (ap (holds first) same ∙ is), off_first p takes first v arcs is h.1)

-- a free route from the source is a permitted path
pub permitted_of_route : (p : Parts) (r : Forbidden) (k : ℕ) (out : Option ArcId) (first : List Bool) (arcs : List ArcId) → IsFreeRoute p (may_take p r k out) first (demand_at p k).source (demand_at p k).target arcs → IsPermittedPath p r k arcs
permitted_of_route p r k out first arcs way = record {
  simple = simple_of_route p (demand_at p k) arcs way.route;
  permitted = all_permitted p r k out first arcs way.free;
}

-- a free route from a node of the path, without the path's own arc there, makes another path
pub other_of_route : (p : Parts) (r : Forbidden) (k : ℕ) (path : List ArcId) (i : ℕ) (first : List Bool) (start : NodeId) (way : List ArcId)
    → IsPermittedPath p r k path → i < length path → start.0 ≡ node_at p (demand_at p k).source path i
    → ((j : ℕ) → j ≤ i → holds first (node_at p (demand_at p k).source path j) ≡ true)
    → IsFreeRoute p (may_take p r k (Some (arc_at path i))) first start (demand_at p k).target way → IsOtherPath p r k path (take i path ++ way)
other_of_route p r k path i first start way path_is within is_start marked free = record {
  permitted = record {
    simple = simple_of_route p (demand_at p k) (take i path ++ way)
        (join p (demand_at p k).source (demand_at p k).target start path i way
        (route_of_simple p (demand_at p k) path path_is.simple) (omega (arith, within)) is_start free.route
        (λ j upto. off_first p _ first _ way (marked j upto) free.free));
    permitted = All-append (λ a. r k a ≡ false) (take i path) way (All-take (λ a. r k a ≡ false) i path path_is.permitted) (all_permitted p r k _ first way free.free);
  };
  different = differs way free.route free.free;
}
  where
    length_front : length (take i path) ≡ i
    length_front = length-take-le i path (omega (arith, within))

    differs : (arcs : List ArcId) → IsRoute p start (demand_at p k).target arcs → AllByRecursion (IsFree p (may_take p r k (Some (arc_at path i))) first) arcs → take i path ++ arcs ≢ path
    differs [] route good same = path_is.simple.no_node_twice i (length path) within (omega arith) (sym is_start ∙ route ∙ sym path_is.simple.ends_at_target)
    differs (b ∷ arcs) route good same =
        let at_seam : arc_at (take i path ++ b ∷ arcs) (length (take i path)) ≡ b = get_or-append_seam (take i path) b arcs no_arc in
        let here : arc_at path i ≡ b = sym (ap (λ xs. arc_at xs i) same) ∙ ap (arc_at (take i path ++ b ∷ arcs)) (sym length_front) ∙ at_seam in
        eqb-false _ _ (taken_not_left_out p r k (Some (arc_at path i)) b good.0.0) (ap (λ (a : ArcId). a.0) here)
