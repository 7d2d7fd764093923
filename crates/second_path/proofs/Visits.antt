-- A search goes along the arcs that leave one node, and then the next.
use Rattle.std.proofs.Common.{◌≡◌, ℕ, ◌<◌, ◌≤◌, ◌+◌, ◌⊎◌, inl, inr, Bool, true, List, [], length, refl, sym, ap, subst, ◌∙◌, arith, IsTrue, Option}
use Rattle.plan_base.specs.declared.ids.NodeId.{NodeId}
use Rattle.plan_base.specs.declared.ids.ArcId.{ArcId}
use Rattle.plan_base.specs.declared.parts.Parts.{Parts}
use Rattle.plan_base.specs.Arcs.{is_arc, tail_of, head_of}
use Rattle.plan_base.specs.Paths.{arc_at}
use Rattle.plan_base.specs.Facts.{IsInstance}
use Rattle.plan_base.specs.Leaving.{AreLeaving}
use Rattle.plan_base.proofs.Bools.{and-first}
use Rattle.plan_base.proofs.PathLaws.{head-within}
use Rattle.std_collections.proofs.IndexTableLemmas.Probe.{pigeonhole}
use Rattle.arc_restrict.specs.Restrictions.{Forbidden}
use Rattle.second_path.specs.Ways.{may_take}
use Rattle.second_path.specs.Others.{holds}
use Rattle.second_path.specs.Searching.{IsBefore, IsTree, Grows, IsSpent, IsArrival, IsVisitSoFar, IsVisit, IsSpentTo}
use Rattle.second_path.proofs.Trees.{before_along, last_or_before}

grows_on : (met more most : List Bool) (xs ys zs : List ArcId) → Grows met more xs ys → Grows more most ys zs → Grows met most xs zs
grows_on met more most xs ys zs g h = record {
  count = h.count ∙ g.count;
  stays = λ v is. h.stays v (g.stays v is);
  room = omega (arith, g.room, h.room);
  kept = λ i within. h.kept i (omega (arith, within, g.room)) ∙ g.kept i within;
}

before_grows : (p : Parts) (start : NodeId) (met more : List Bool) (xs ys : List ArcId) (v : ℕ) → Grows met more xs ys → IsBefore p start xs (length xs) v → IsBefore p start ys (length ys) v
before_grows p start met more xs ys v g h = before_along p start xs ys (length xs) (length ys) v g.room g.kept h

-- ---- the arcs that leave one node

-- before its first arc, the visit of a node has met nothing new
pub visit_none : (p : Parts) (takes : ArcId → Bool) (v : ℕ) (leaving : List ArcId) (met : List Bool) (xs : List ArcId) → IsVisitSoFar p takes v leaving 0 met met xs xs
visit_none p takes v leaving met xs = record {
  grows = record { count = refl; stays = λ u is. is; room = omega arith; kept = λ i within. refl };
  are_met = λ i below taken. absurd (omega (arith, below));
  search = λ first start search before. search;
}

-- one arc more of the node that is visited
pub visit_more : (p : Parts) (takes : ArcId → Bool) (v : ℕ) (leaving : List ArcId) (n : ℕ) (a : ArcId) (met more most : List Bool) (xs ys zs : List ArcId)
    → AreLeaving p v leaving → n < length leaving → a ≡ arc_at leaving n → IsVisitSoFar p takes v leaving n met more xs ys → IsArrival p takes a more most ys zs → IsVisitSoFar p takes v leaving (n + 1) met most xs zs
visit_more p takes v leaving n a met more most xs ys zs lawful within is_a so_far arrival = record {
  grows = grows_on met more most xs ys zs so_far.grows arrival.grows;
  are_met = λ i below taken. elim (last_or_before n i below) [
    | inl before ↦ arrival.grows.stays _ (so_far.are_met i before taken)
    | inr is ↦ (
        let same : a ≡ arc_at leaving i = is_a ∙ ap (arc_at leaving) (sym is) in
        let now_met : holds most (head_of p a).0 ≡ true = arrival.is_met (ap takes same ∙ taken) in
        subst (λ b. holds most (head_of p b).0 ≡ true) same now_met)
  ];
  search = λ first start search before.
      arrival.search first start (so_far.search first start search before)
      (subst (λ u. IsBefore p start ys (length ys) u) (sym (leaves_v)) (before_grows p start met more xs ys v so_far.grows before));
}
  where
    leaves_v : (tail_of p a).0 ≡ v
    leaves_v = ap (λ b. (tail_of p b).0) is_a ∙ lawful.leave n within

-- when all leaving arcs are gone through, the node is visited
pub visit_whole : (p : Parts) (takes : ArcId → Bool) (v : ℕ) (leaving : List ArcId) (met more : List Bool) (xs ys : List ArcId)
    → AreLeaving p v leaving → ((a : ArcId) → takes a ≡ true → IsTrue (is_arc p a)) → IsVisitSoFar p takes v leaving (length leaving) met more xs ys → IsVisit p takes v met more xs ys
visit_whole p takes v leaving met more xs ys lawful are_arcs so_far = record {
  grows = so_far.grows;
  spent = λ a taken leaves_v.
      (let stands = lawful.complete a (are_arcs a taken) leaves_v in
      subst (λ b. holds more (head_of p b).0 ≡ true) stands.is (so_far.are_met stands.place stands.within (ap takes stands.is ∙ taken)));
  search = so_far.search;
}

-- ---- the nodes one after the other

spent_grows : (p : Parts) (takes : ArcId → Bool) (v : ℕ) (met more : List Bool) (xs ys : List ArcId) → Grows met more xs ys → IsSpent p takes met v → IsSpent p takes more v
spent_grows p takes v met more xs ys g spent = λ a taken leaves_v. g.stays _ (spent a taken leaves_v)

-- once the source is visited, it is spent
pub spent_start : (p : Parts) (takes : ArcId → Bool) (first : List Bool) (start : NodeId) (met more : List Bool) (xs ys : List ArcId)
    → holds first start.0 ≡ true → met ≡ first → xs ≡ [] → IsVisit p takes start.0 met more xs ys → IsSpentTo p takes first start 0 more ys
spent_start p takes first start met more xs ys marked is_met is_none visit =
    from_none (subst (λ (arcs : List ArcId). IsVisit p takes start.0 first more arcs ys) is_none (subst (λ set. IsVisit p takes start.0 set more xs ys) is_met visit))
  where
    from_none : IsVisit p takes start.0 first more [] ys → IsSpentTo p takes first start 0 more ys
    from_none visit = record {
      search = visit.search first start (record {
        tree = record {
          taken = λ i within. absurd (omega (arith, within));
          free = λ i within. absurd (omega (arith, within));
          is_new = λ i within. absurd (omega (arith, within));
          rooted = λ i within. absurd (omega (arith, within));
        };
        start_met = marked;
        met_first = λ v is. is;
        met_led = λ i within. absurd (omega (arith, within));
        met_only = λ v is. inl is;
      }) (inl refl);
      room = omega arith;
      spent = λ v before. elim before [
        | inl is ↦ subst (IsSpent p takes more) (sym is) visit.spent
        | inr led ↦ absurd (omega (arith, led.within))
      ];
    }

-- once the head of the next arrival is visited, it is spent too
pub spent_more : (p : Parts) (takes : ArcId → Bool) (first : List Bool) (start : NodeId) (n : ℕ) (v : ℕ) (met more : List Bool) (xs ys : List ArcId)
    → n < length xs → v ≡ (head_of p (arc_at xs n)).0 → IsSpentTo p takes first start n met xs → IsVisit p takes v met more xs ys → IsSpentTo p takes first start (n + 1) more ys
spent_more p takes first start n v met more xs ys within is_v so_far visit = record {
  search = visit.search first start so_far.search (inr (record { place = n; within = within; leads = sym is_v }));
  room = omega (arith, within, visit.grows.room);
  spent = λ u before. elim before [
    | inl is ↦ spent_grows p takes u met more xs ys visit.grows (so_far.spent u (inl is))
    | inr led ↦ elim (last_or_before n led.place led.within) [
      | inl earlier ↦ spent_grows p takes u met more xs ys visit.grows (so_far.spent u (inr (record {
        place = led.place;
        within = earlier;
        leads = ap (λ a. (head_of p a).0) (sym (visit.grows.kept led.place (omega (arith, earlier, within)))) ∙ led.leads;
      })))
      | inr is ↦ (
          let same : v ≡ u = is_v ∙ ap (λ a. (head_of p a).0) (sym (visit.grows.kept n within)) ∙ ap (λ i. (head_of p (arc_at ys i)).0) (sym is) ∙ led.leads in
          subst (IsSpent p takes more) same visit.spent)
    ]
  ];
}

-- ---- how many arrivals there are

-- an arc that may be taken exists
pub takes_arcs : (p : Parts) (r : Forbidden) (k : ℕ) (out : Option ArcId) (a : ArcId) → may_take p r k out a ≡ true → IsTrue (is_arc p a)
unfolding may_take
takes_arcs p r k out a h = and-first _ _ h

compare : (i j : ℕ) → (i < j) ⊎ ((i ≡ j) ⊎ (j < i))
compare i j = grind arith

-- arrivals lead to different nodes, so there are at most as many as nodes
pub few_arrivals : (p : Parts) (takes : ArcId → Bool) (first : List Bool) (start : NodeId) (xs : List ArcId) → IsInstance p → ((a : ArcId) → takes a ≡ true → IsTrue (is_arc p a)) → IsTree p takes first start xs → length xs ≤ p.nodes
few_arrivals p takes first start xs inst are_arcs tree =
    pigeonhole (length xs) p.nodes (λ i. (head_of p (arc_at xs i)).0)
    (λ i within. head-within p (arc_at xs i) inst (are_arcs _ (tree.taken i within)))
    (λ i j i_in j_in same. elim (compare i j) [
      | inl before ↦ absurd (later i j j_in before same)
      | inr w ↦ elim w [ inl is ↦ is | inr after ↦ absurd (later j i i_in after (sym same)) ]
    ])
  where
    later : (i j : ℕ) → j < length xs → i < j → (head_of p (arc_at xs i)).0 ≡ (head_of p (arc_at xs j)).0 → ⊥
    later i j within before same = tree.is_new j within (inr (record { place = i; within = before; leads = same }))

-- how the visit of a node begins and ends, and that what it takes are arcs
pub ruleset visits = (visit_none, visit_whole, takes_arcs)
