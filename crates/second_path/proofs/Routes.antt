-- The way back along arrivals is a route.
use Rattle.std.proofs.Common.{◌≡◌, ◌≢◌, ℕ, ◌<◌, ◌+◌, inl, inr, Bool, true, false, ◌==◌, List, [], ◌∷◌, ◌++◌, length, reverse, refl, sym, ap, subst, ◌∙◌, arith, IsTrue}
use Rattle.std.specs.List.{AllByRecursion}
use Rattle.std.proofs.lemmas.List.{reverse-append}
use Rattle.std.proofs.lemmas.Bool.{eqb-true, eqb-false}
use Rattle.plan_base.specs.declared.ids.NodeId.{NodeId}
use Rattle.plan_base.specs.declared.ids.ArcId.{ArcId}
use Rattle.plan_base.specs.declared.parts.Parts.{Parts}
use Rattle.plan_base.specs.Arcs.{is_arc, tail_of, head_of}
use Rattle.plan_base.specs.Paths.{arc_at}
use Rattle.second_path.specs.Others.{holds}
use Rattle.second_path.specs.Searching.{IsLedTo, IsBefore, IsTree, Avoids, IsRoute, IsFree, IsFreeRoute, IsStepBack, IsBackTo}
use Rattle.second_path.proofs.Trees.{before_along}

-- before the first step back, no arc is picked and the target is wanted
pub back_start : (p : Parts) (takes : ArcId → Bool) (first : List Bool) (start target : NodeId) (xs : List ArcId) (n : ℕ) → IsBefore p start xs n target.0 → IsBackTo p takes first start target xs n target []
back_start p takes first start target xs n before = record {
  route = record { route = refl; free = tt };
  before = before;
  behind = λ v h. tt;
}

sooner : (p : Parts) (start : NodeId) (xs : List ArcId) (i v : ℕ) → IsBefore p start xs i v → IsBefore p start xs (i + 1) v
sooner p start xs i v h = before_along p start xs xs i (i + 1) v (omega arith) (λ j below. refl) h

-- the node of an arrival that was passed is not the wanted one
not_here : (p : Parts) (start : NodeId) (xs : List ArcId) (i v : ℕ) → (head_of p (arc_at xs i)).0 ≢ v → IsBefore p start xs (i + 1) v → IsBefore p start xs i v
not_here p start xs i v other h = elim h [
  | inl is ↦ inl is
  | inr led ↦ by_place led (led.place == i) refl
]
  where
    by_place : (led : IsLedTo p xs (i + 1) v) → (b : Bool) → (led.place == i) ≡ b → IsBefore p start xs i v
    by_place led true e = absurd (other (ap (λ j. (head_of p (arc_at xs j)).0) (sym (eqb-true _ _ e)) ∙ led.leads))
    by_place led false e =
        let differs : led.place ≢ i = eqb-false _ _ e in
        inr (record { place = led.place; within = omega (arith, led.within, differs); leads = led.leads })

turned : (picked : List ArcId) (a : ArcId) → reverse (picked ++ a ∷ []) ≡ a ∷ reverse picked
turned picked a = reverse-append picked (a ∷ [])

-- a route from a node of the same number
pub from_same : (p : Parts) (s m t : NodeId) (arcs : List ArcId) → m.0 ≡ s.0 → IsRoute p m t arcs → IsRoute p s t arcs
from_same p s m t [] same r = sym same ∙ r
from_same p s m t (b ∷ arcs) same r = (r.0, r.1 ∙ same, subst (λ v. Avoids p v (b ∷ arcs)) same r.2, r.3)

-- with the arc that arrived at the wanted node, the way back is one arc longer
pub back_more : (p : Parts) (takes : ArcId → Bool) (first : List Bool) (start target : NodeId) (xs : List ArcId) (i : ℕ) (a : ArcId) (want more : NodeId) (picked longer : List ArcId)
    → ((a : ArcId) → takes a ≡ true → IsTrue (is_arc p a)) → IsTree p takes first start xs → i < length xs → a ≡ arc_at xs i
    → IsBackTo p takes first start target xs (i + 1) want picked → IsStepBack p a want more picked longer → IsBackTo p takes first start target xs i more longer
back_more p takes first start target xs i a want more picked longer are_arcs tree within is_a so_far step = by_head ((head_of p a).0 == want.0) refl
  where
    is_new : (v : ℕ) → IsBefore p start xs i v → (head_of p a).0 ≢ v
    is_new v h same = tree.is_new i within (subst (IsBefore p start xs i) (sym same ∙ ap (λ b. (head_of p b).0) is_a) h)

    rooted : IsBefore p start xs i (tail_of p a).0
    rooted = subst (λ b. IsBefore p start xs i (tail_of p b).0) (sym is_a) (tree.rooted i within)

    taken : takes a ≡ true
    taken = ap takes is_a ∙ tree.taken i within

    free : holds first (head_of p a).0 ≢ true
    free was = tree.free i within (ap (λ b. holds first (head_of p b).0) (sym is_a) ∙ was)

    one_more : (head_of p a).0 ≡ want.0 → IsBackTo p takes first start target xs i (tail_of p a) (picked ++ a ∷ [])
    one_more same = record {
      route = record {
        route = subst (IsRoute p (tail_of p a) target) (sym (turned picked a)) (
          are_arcs a taken,
          refl,
          (is_new _ rooted, so_far.behind _ (sooner p start xs i _ rooted)),
          from_same p (head_of p a) want target (reverse picked) (sym same) so_far.route.route,
        );
        free = subst (AllByRecursion (IsFree p takes first)) (sym (turned picked a)) ((taken, free), so_far.route.free);
      };
      before = rooted;
      behind = λ v h. subst (Avoids p v) (sym (turned picked a)) (is_new v h, so_far.behind v (sooner p start xs i v h));
    }

    by_head : (b : Bool) → ((head_of p a).0 == want.0) ≡ b → IsBackTo p takes first start target xs i more longer
    by_head true e =
        let same : (head_of p a).0 ≡ want.0 = eqb-true _ _ e in
        let is = step.taken same in
        subst (λ (v : NodeId). IsBackTo p takes first start target xs i v longer) (sym is.0)
        (subst (IsBackTo p takes first start target xs i (tail_of p a)) (sym is.1) (one_more same))
    by_head false e =
        let other : (head_of p a).0 ≢ want.0 = eqb-false _ _ e in
        let is = step.passed other in
        let not_wanted : (head_of p (arc_at xs i)).0 ≢ want.0 = λ same. other (ap (λ b. (head_of p b).0) is_a ∙ same) in
        subst (λ (v : NodeId). IsBackTo p takes first start target xs i v longer) (sym is.0)
        (subst (IsBackTo p takes first start target xs i want) (sym is.1) (record {
          route = so_far.route;
          before = not_here p start xs i want.0 not_wanted so_far.before;
          behind = λ v h. so_far.behind v (sooner p start xs i v h);
        }))

-- at the start, the arcs picked on the way back are a free route in reverse
pub back_whole : (p : Parts) (takes : ArcId → Bool) (first : List Bool) (start target : NodeId) (xs : List ArcId) (want : NodeId) (picked : List ArcId) → IsBackTo p takes first start target xs 0 want picked → IsFreeRoute p takes first start target (reverse picked)
back_whole p takes first start target xs want picked h = record {
  route = from_same p start want target (reverse picked) is_start h.route.route;
  free = h.route.free;
}
  where
    is_start : want.0 ≡ start.0
    is_start = elim h.before [ inl is ↦ is | inr led ↦ absurd (omega (arith, led.within)) ]

-- the steps of reading a route back from the arrivals
pub ruleset routes = (back_start, back_more, back_whole)
