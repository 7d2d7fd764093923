-- Blocked nodes, and what a search over the others finds.
use Rattle.std.proofs.Common.{◌≡◌, ℕ, ◌<◌, ◌+◌, inl, inr, Bool, true, false, List, ◌++◌, length, take, set, get_or, All, Some, None, sym, ap, subst, ◌∙◌, arith, IsTrue}
use Rattle.std.proofs.lemmas.List.{get_or_default, get_or-set_same}
use Rattle.plan_base.specs.declared.ids.NodeId.{NodeId}
use Rattle.plan_base.specs.declared.ids.ArcId.{ArcId}
use Rattle.plan_base.specs.declared.parts.Demand.{Demand}
use Rattle.plan_base.specs.declared.parts.Parts.{Parts}
use Rattle.plan_base.specs.Arcs.{is_arc, tail_of, demand_at, no_arc}
use Rattle.plan_base.specs.Paths.{arc_at, node_at}
use Rattle.arc_restrict.specs.Restrictions.{Forbidden, IsPermittedPath}
use Rattle.second_path.specs.Ways.{may_take}
use Rattle.second_path.specs.Others.{holds, IsOtherPath}
use Rattle.second_path.specs.Searching.{IsBefore, IsTree, IsSearch, IsFreeRoute, IsBlockedTo}
use Rattle.second_path.proofs.Trees.{holds-set_keeps, holds-set_only, last_or_before, false_true}
use Rattle.second_path.proofs.Joins.{permitted_of_route, other_of_route}

-- a search that takes arcs alone has arrived along arcs
pub arrivals_are_arcs : (p : Parts) (takes : ArcId → Bool) (first : List Bool) (start : NodeId) (xs : List ArcId) → ((a : ArcId) → takes a ≡ true → IsTrue (is_arc p a)) → IsTree p takes first start xs → All (λ a. IsTrue (is_arc p a)) xs
arrivals_are_arcs p takes first start xs are_arcs tree = λ i d within.
    subst (λ a. IsTrue (is_arc p a)) (sym (get_or_default xs i d no_arc within)) (are_arcs _ (tree.taken i within))

-- where an arc begins that is read at a place of a path
pub read-start : (p : Parts) (arcs path : List ArcId) (place : ℕ) (d : ArcId) (start : NodeId) → arcs ≡ path → place < length arcs → start ≡ tail_of p (get_or arcs place d) → start ≡ tail_of p (arc_at path place)
read-start p arcs path place d start are within is =
    is ∙ ap (tail_of p) (get_or_default arcs place d no_arc within ∙ ap (λ (xs : List ArcId). arc_at xs place) are)

-- ---- one blocked node

-- of the blocked nodes, where the source alone is one
pub only_source : (blocked : List Bool) (s v : ℕ) → ((u : ℕ) → holds blocked u ≡ false) → holds (set blocked s true) v ≡ true → v ≡ s
only_source blocked s v free is = elim (holds-set_only blocked s v is) [ inl was ↦ absurd (false_true _ (free v) was) | inr same ↦ sym same ]

-- no node of a walk is blocked
pub blocked_none : (p : Parts) (source : NodeId) (path : List ArcId) (blocked : List Bool) → ((u : ℕ) → holds blocked u ≡ false) → IsBlockedTo p source path 0 blocked
blocked_none p source path blocked free = record {
  marked = λ j below. absurd (omega (arith, below));
  only = λ v is. absurd (false_true _ (free v) is);
}

-- one node of a walk more is blocked
pub blocked_more : (p : Parts) (source : NodeId) (path : List ArcId) (n v : ℕ) (blocked more : List Bool) → IsBlockedTo p source path n blocked → node_at p source path n ≡ v → v < length blocked → more ≡ set blocked v true → IsBlockedTo p source path (n + 1) more
blocked_more p source path n v blocked more before here within set_is = record {
  marked = λ j below. rw set_is (elim (last_or_before n j below) [
    | inl earlier ↦ holds-set_keeps blocked v _ within (before.marked j earlier)
    | inr last ↦ rw (last, here) (get_or-set_same blocked v true false within)
  ]);
  only = λ u is. elim (holds-set_only blocked v u (rw set_is at is)) [
    | inl was ↦ (let old = before.only u was in record { place = old.place; within = omega (arith, old.within); is = old.is })
    | inr same ↦ record { place = n; within = omega arith; is = here ∙ same }
  ];
}

-- a met node that is not blocked, but for the start, comes before the end of the search
pub met_before : (p : Parts) (takes : ArcId → Bool) (first met : List Bool) (start : NodeId) (xs : List ArcId) (v : ℕ) → IsSearch p takes first start met xs → (holds first v ≡ true → v ≡ start.0) → holds met v ≡ true → IsBefore p start xs (length xs) v
met_before p takes first met start xs v search only is = elim (search.met_only v is) [ inl was ↦ inl (only was) | inr led ↦ inr led ]

-- ---- what a route gives

-- the target is not one of the blocked nodes of a path
pub target_free : (p : Parts) (r : Forbidden) (k : ℕ) (first : List Bool) (path : List ArcId) (i : ℕ) (target : NodeId) → IsPermittedPath p r k path → i < length path
    → IsBlockedTo p (demand_at p k).source path (i + 1) first → target ≡ (demand_at p k).target → holds first target.0 ≡ true → ⊥
target_free p r k first path i target path_is within blocked is_target was =
    let old = blocked.only _ was in
    path_is.simple.no_node_twice old.place (length path) (omega (arith, old.within, within)) (omega arith)
    (old.is ∙ ap (λ (v : NodeId). v.0) is_target ∙ sym path_is.simple.ends_at_target)

-- a free route from the demand's source is a permitted path
pub path_found : (p : Parts) (r : Forbidden) (k : ℕ) (d : Demand) (first : List Bool) (route arcs : List ArcId) → d ≡ demand_at p k
    → IsFreeRoute p (may_take p r k None) first d.source d.target route → arcs ≡ route → IsPermittedPath p r k arcs
path_found p r k d first route arcs is_demand free is_arcs =
    subst (IsPermittedPath p r k) (sym is_arcs)
    (permitted_of_route p r k None first route (subst (λ (e : Demand). IsFreeRoute p (may_take p r k None) first e.source e.target route) is_demand free))

-- the front of a path and a free route from there to the target make another path
pub other_found : (p : Parts) (r : Forbidden) (k : ℕ) (path : List ArcId) (i : ℕ) (first : List Bool) (start target : NodeId) (way arcs : List ArcId)
    → IsPermittedPath p r k path → i < length path → start ≡ tail_of p (arc_at path i) → target ≡ (demand_at p k).target → IsBlockedTo p (demand_at p k).source path (i + 1) first
    → IsFreeRoute p (may_take p r k (Some (arc_at path i))) first start target way → arcs ≡ take i path ++ way → IsOtherPath p r k path arcs
other_found p r k path i first start target way arcs path_is within is_start is_target blocked free is_arcs =
    subst (IsOtherPath p r k path) (sym is_arcs)
    (other_of_route p r k path i first start way path_is within (ap (λ (n : NodeId). n.0) is_start ∙ path_is.simple.goes_on i within)
    (λ j upto. blocked.marked j (omega (arith, upto)))
    (subst (λ (v : NodeId). IsFreeRoute p (may_take p r k (Some (arc_at path i))) first start v way) is_target free))
