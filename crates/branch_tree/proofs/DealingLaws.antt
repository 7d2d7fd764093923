-- The sides that are dealt from the leaving arcs of a node make a split there.
use Rattle.std.proofs.Common.{◌≡◌, ◌≢◌, ℕ, zero, suc, ◌<◌, ◌≤◌, ◌⊎◌, inl, inr, Bool, true, false, not, ◌||◌, ◌==◌, List, [], ◌∷◌, ◌++◌, length, if◌then◌else◌, All, IsTrue, refl, sym, ap, subst, subst₂, ◌∙◌, arith}
use Rattle.std.proofs.lemmas.Bool.{eqb-true, eq-eqb, ne_eqb, and_parts, and_from, and_left, and_right, or_from, or_left, or_right, or_cases, cases_Bool, cases_eq, cases_order, both_ways, not_from_true, not_from_false, not-true, false_from_ne_true}
use Rattle.std.proofs.lemmas.List.{get_or_default, get_or_append_left, get_or_push, length_push}
use Rattle.std.proofs.lemmas.List.Elements.{All-nil, All-push}
use Rattle.std.proofs.lemmas.List.Folds.{list_any-append}
use Rattle.plan_base.specs.declared.ids.NodeId.{NodeId}
use Rattle.plan_base.specs.declared.ids.ArcId.{ArcId}
use Rattle.plan_base.specs.declared.ids.DemandId.{DemandId}
use Rattle.plan_base.specs.declared.parts.Demand.{Demand}
use Rattle.plan_base.specs.declared.parts.Parts.{Parts}
use Rattle.plan_base.specs.Arcs.{is_arc, tail_of, no_arc, demand_at}
use Rattle.plan_base.specs.Paths.{arc_at, IsSimplePath}
use Rattle.plan_base.specs.Leaving.{AreLeaving}
use Rattle.arc_restrict.specs.Restrictions.{Forbidden, is_among, IsPermittedPath}
use Rattle.arc_restrict.specs.Partings.{PartAt}
use Rattle.proof_tree.specs.Splits.{IsSide, HasPathWith}
use Rattle.proof_tree.specs.Spellings.{IsAscending}
use Rattle.branch_tree.specs.Dealing.{goes_left, goes_right, picked, AreDealt}
use Rattle.branch_tree.specs.Branches.{SharesOut, IsBranching}

-- what holds of each arc that passes the test holds of all that are picked
picked-All : (P : ArcId → Type 0) (test : ℕ → Bool) (arcs : List ArcId) (n : ℕ) → ((i : ℕ) → i < n → test i ≡ true → P (arc_at arcs i)) → All P (picked test arcs n)
picked-All P test arcs zero each = All-nil P
picked-All P test arcs (suc n) each = by_cases (picked-All P test arcs n (λ i below. each i (omega arith))) (test n) refl
  where
    by_cases : All P (picked test arcs n) → (b : Bool) → test n ≡ b → All P (if b then picked test arcs n ++ (arc_at arcs n ∷ []) else picked test arcs n)
    by_cases before true is = All-push P (picked test arcs n) (arc_at arcs n) before (each n (omega arith) is)
    by_cases before false is = before

-- an arc is among these and one more
is_among-push : (arcs : List ArcId) (b a : ArcId) → is_among (arcs ++ (b ∷ [])) a ≡ (is_among arcs a || is_among (b ∷ []) a)
is_among-push arcs b a = list_any-append (λ (x : ArcId). x.0 == a.0) arcs (b ∷ [])

is_among-itself : (a b : ArcId) → b.0 ≡ a.0 → is_among (b ∷ []) a ≡ true
is_among-itself a b same = or_left _ _ (eq-eqb b.0 a.0 same)

is_among-one : (a b : ArcId) → is_among (b ∷ []) a ≡ true → b.0 ≡ a.0
is_among-one a b h = elim (or_cases (b.0 == a.0) false h) [ inl same ↦ eqb-true _ _ same | inr bad ↦ absurd (let no : false ≡ true = bad in cc) ]

-- an arc that passes the test is picked
picked-has : (test : ℕ → Bool) (arcs : List ArcId) (n i : ℕ) → i < n → test i ≡ true → is_among (picked test arcs n) (arc_at arcs i) ≡ true
picked-has test arcs zero i below passes = absurd (omega arith)
picked-has test arcs (suc n) i below passes = by_cases (λ earlier. picked-has test arcs n i earlier passes) (test n) refl (cases_eq i n)
  where
    a : ArcId
    a = arc_at arcs i

    by_cases : (i < n → is_among (picked test arcs n) a ≡ true) → (b : Bool) → test n ≡ b → (i ≡ n) ⊎ (i ≡ n → ⊥) → is_among (if b then picked test arcs n ++ (arc_at arcs n ∷ []) else picked test arcs n) a ≡ true
    by_cases before true is (inl here) = is_among-push (picked test arcs n) (arc_at arcs n) a ∙ or_right _ _ (is_among-itself a (arc_at arcs n) (ap (λ (j : ℕ). (arc_at arcs j).0) (sym here)))
    by_cases before true is (inr earlier) = is_among-push (picked test arcs n) (arc_at arcs n) a ∙ or_left _ _ (before (omega arith))
    by_cases before false is (inl here) = absurd (let bad : false ≡ true = sym is ∙ ap test (sym here) ∙ passes in cc)
    by_cases before false is (inr earlier) = before (omega arith)

-- where a picked arc stands
record IsPicked (test : ℕ → Bool) (arcs : List ArcId) (n : ℕ) (a : ArcId) : Type 0 where
  place : ℕ
  below : place < n
  passes : test place ≡ true
  same : (arc_at arcs place).0 ≡ a.0

picked-place : (test : ℕ → Bool) (arcs : List ArcId) (n : ℕ) (a : ArcId) → is_among (picked test arcs n) a ≡ true → IsPicked test arcs n a
picked-place test arcs zero a h = absurd (let bad : false ≡ true = h in cc)
picked-place test arcs (suc n) a h = by_cases (λ among. later (picked-place test arcs n a among)) (test n) refl h
  where
    later : IsPicked test arcs n a → IsPicked test arcs (suc n) a
    later p = record { place = p.place; below = (let below = p.below in omega arith); passes = p.passes; same = p.same }

    by_cases : (is_among (picked test arcs n) a ≡ true → IsPicked test arcs (suc n) a) → (b : Bool) → test n ≡ b → is_among (if b then picked test arcs n ++ (arc_at arcs n ∷ []) else picked test arcs n) a ≡ true → IsPicked test arcs (suc n) a
    by_cases before true is among = elim (or_cases _ _ (sym (is_among-push (picked test arcs n) (arc_at arcs n) a) ∙ among)) [
      | inl earlier ↦ before earlier
      | inr last ↦ record { place = n; below = omega arith; passes = is; same = is_among-one a (arc_at arcs n) last }
    ]
    by_cases before false is among = before among

-- arcs stay ascending with a greater one behind them
IsAscending-push : (arcs : List ArcId) (b : ArcId) → IsAscending arcs → All (λ a. a.0 < b.0) arcs → IsAscending (arcs ++ (b ∷ []))
IsAscending-push arcs b ascending less i within = elim (cases_eq (suc i) (length arcs)) [
  | inl last ↦ (
      let long = length_push arcs b in
      let here : arc_at (arcs ++ (b ∷ [])) i ≡ arc_at arcs i = get_or_append_left arcs (b ∷ []) no_arc i (omega arith) in
      let next : arc_at (arcs ++ (b ∷ [])) (suc i) ≡ b = get_or_push arcs b no_arc (suc i) (sym last) in
      let below : (arc_at arcs i).0 < b.0 = less i no_arc (omega arith) in
      rw (here, next) below)
  | inr earlier ↦ (
      let long = length_push arcs b in
      let here : arc_at (arcs ++ (b ∷ [])) i ≡ arc_at arcs i = get_or_append_left arcs (b ∷ []) no_arc i (omega arith) in
      let next : arc_at (arcs ++ (b ∷ [])) (suc i) ≡ arc_at arcs (suc i) = get_or_append_left arcs (b ∷ []) no_arc (suc i) (omega arith) in
      rw (here, next) (ascending i (omega arith)))
]

picked-ascending : (test : ℕ → Bool) (arcs : List ArcId) (n : ℕ) → n ≤ length arcs → ((i j : ℕ) → i < j → j < length arcs → (arc_at arcs i).0 < (arc_at arcs j).0) → IsAscending (picked test arcs n)
picked-ascending test arcs zero within ascending = λ i below. absurd (omega arith)
picked-ascending test arcs (suc n) within ascending = by_cases (picked-ascending test arcs n (omega arith) ascending) (test n) refl
  where
    by_cases : IsAscending (picked test arcs n) → (b : Bool) → test n ≡ b → IsAscending (if b then picked test arcs n ++ (arc_at arcs n ∷ []) else picked test arcs n)
    by_cases before true is = IsAscending-push (picked test arcs n) (arc_at arcs n) before (picked-All (λ a. a.0 < (arc_at arcs n).0) test arcs n (λ i below passes. ascending i n below (omega arith)))
    by_cases before false is = before

-- arcs among which one is are some
some_among : (arcs : List ArcId) (a : ArcId) → is_among arcs a ≡ true → 0 < length arcs
some_among [] a h = absurd (let bad : false ≡ true = h in cc)
some_among (b ∷ arcs) a h = omega arith

-- what the arcs that are dealt to the two sides are
module _ (p : Parts) (r : Forbidden) (id : DemandId) (at : NodeId) (one other : ArcId) (leaving : List ArcId) (are : AreLeaving p at.0 leaving) (differ : one.0 ≢ other.0) where
  abbrev to_left : ℕ → Bool
  to_left = goes_left r id.0 one other leaving

  abbrev to_right : ℕ → Bool
  to_right = goes_right r id.0 one other leaving

  abbrev lefts : List ArcId
  lefts = picked to_left leaving (length leaving)

  abbrev rights : List ArcId
  rights = picked to_right leaving (length leaving)

  left_allowed : (i : ℕ) → to_left i ≡ true → r id.0 (arc_at leaving i) ≡ false
  left_allowed i goes = not-true _ (and_parts _ _ goes).0

  right_allowed : (i : ℕ) → to_right i ≡ true → r id.0 (arc_at leaving i) ≡ false
  right_allowed i goes = not-true _ (and_parts _ _ goes).0

  -- arcs of the leaving ones that pass a test that no forbidden arc passes make a side
  side : (test : ℕ → Bool) → ((i : ℕ) → test i ≡ true → r id.0 (arc_at leaving i) ≡ false) → 0 < length (picked test leaving (length leaving)) → IsSide p r id at (picked test leaving (length leaving))
  side test allowed some = record {
    some = some;
    are_arcs = picked-All (λ a. IsTrue (is_arc p a)) test leaving (length leaving) (λ i below passes. are.are_arcs i below);
    leave = picked-All (λ a. (tail_of p a).0 ≡ at.0) test leaving (length leaving) (λ i below passes. are.leave i below);
    permitted = picked-All (λ a. r id.0 a ≡ false) test leaving (length leaving) (λ i below passes. allowed i passes);
  }

  -- two places with one arc are one
  one_place : (i j : ℕ) → i < length leaving → j < length leaving → (arc_at leaving i).0 ≡ (arc_at leaving j).0 → i ≡ j
  one_place i j first second same = elim (cases_order i j) [
    | inl equal ↦ equal
    | inr apart ↦ elim apart [
      | inl before ↦ absurd (let less = are.ascending i j before second in omega arith)
      | inr after ↦ absurd (let less = are.ascending j i after first in omega arith)
    ]
  ]

  -- no arc goes to both sides
  apart : All (λ a. is_among rights a ≡ false) lefts
  apart = picked-All (λ a. is_among rights a ≡ false) to_left leaving (length leaving) (λ i below goes. false_from_ne_true _ (λ among.
      let found = picked-place to_right leaving (length leaving) (arc_at leaving i) among in
      let same : found.place ≡ i = one_place found.place i found.below below found.same in
      let not_left : to_left i ≡ false = not-true _ (and_parts _ _ (ap to_right (sym same) ∙ found.passes)).1 in
      both_ways _ not_left goes))

  -- each unforbidden arc goes to a side
  shared_out : SharesOut p r id at lefts rights
  shared_out a exists from allowed =
      let stands = are.complete a exists from in
      let free : not (r id.0 (arc_at leaving stands.place)) ≡ true = not_from_false _ (ap (r id.0) stands.is ∙ allowed) in
      elim (cases_Bool (to_left stands.place)) [
        | inl goes ↦ inl (ap (is_among lefts) (sym stands.is) ∙ picked-has to_left leaving (length leaving) stands.place stands.within goes)
        | inr stays ↦ inr (ap (is_among rights) (sym stands.is) ∙ picked-has to_right leaving (length leaving) stands.place stands.within (and_from _ _ free (not_from_false _ stays)))
      ]

  one_left : IsTrue (is_arc p one) → (tail_of p one).0 ≡ at.0 → r id.0 one ≡ false → is_among lefts one ≡ true
  one_left exists from allowed =
      let stands = are.complete one exists from in
      let free : not (r id.0 (arc_at leaving stands.place)) ≡ true = not_from_false _ (ap (r id.0) stands.is ∙ allowed) in
      let is_one : ((arc_at leaving stands.place).0 == one.0) ≡ true = eq-eqb _ _ (ap (λ (a : ArcId). a.0) stands.is) in
      ap (is_among lefts) (sym stands.is) ∙ picked-has to_left leaving (length leaving) stands.place stands.within (and_from _ _ free (or_left _ _ is_one))

  other_right : IsTrue (is_arc p other) → (tail_of p other).0 ≡ at.0 → r id.0 other ≡ false → is_among rights other ≡ true
  other_right exists from allowed =
      let stands = are.complete other exists from in
      let free : not (r id.0 (arc_at leaving stands.place)) ≡ true = not_from_false _ (ap (r id.0) stands.is ∙ allowed) in
      let is_other : ((arc_at leaving stands.place).0 == other.0) ≡ true = eq-eqb _ _ (ap (λ (a : ArcId). a.0) stands.is) in
      let not_one : ((arc_at leaving stands.place).0 == one.0) ≡ false = ne_eqb _ _ (λ same. differ (sym same ∙ ap (λ (a : ArcId). a.0) stands.is)) in
      let stays : to_left stands.place ≡ false = and_right _ _ (or_from _ _ not_one (and_left _ _ (not_from_true _ is_other))) in
      ap (is_among rights) (sym stands.is) ∙ picked-has to_right leaving (length leaving) stands.place stands.within (and_from _ _ free (not_from_false _ stays))

-- a path with the arc at a place has an arc of a side among which the arc is
path_with : (p : Parts) (r : Forbidden) (k : ℕ) (arcs path : List ArcId) (i : ℕ) (a : ArcId) → IsPermittedPath p r k path → i < length path → arc_at path i ≡ a → is_among arcs a ≡ true → HasPathWith p r k arcs
path_with p r k arcs path i a permitted within is among = (path, permitted, (i, arc_at path i, within, get_or_default path i (arc_at path i) no_arc within, ap (is_among arcs) is ∙ among))

-- no arc of a simple path leaves the demand's target
off_target : (p : Parts) (k : Demand) (path : List ArcId) (i : ℕ) → IsSimplePath p k path → i < length path → (tail_of p (arc_at path i)).0 ≢ k.target.0
off_target p k path i simple within same = simple.no_node_twice i (length path) within (omega arith) (sym (simple.goes_on i within) ∙ same ∙ sym simple.ends_at_target)

-- where two permitted paths part, the sides that are dealt part them too: the first path's arc is on the left, the second path's on the right
pub dealt-parted : (p : Parts) (r : Forbidden) (id : DemandId) (at : NodeId) (one other : ArcId) (first second left right : List ArcId) → IsPermittedPath p r id.0 first → IsPermittedPath p r id.0 second
    → PartAt p first second at one other → AreDealt p r id at one other left right → (is_among left one ≡ true) × (is_among right other ≡ true)
dealt-parted p r id at one other first second left right first_is second_is part dealt =
    let one_in = one_left p r id at one other dealt.leaving dealt.are_leaving part.differ
    (subst (λ (a : ArcId). IsTrue (is_arc p a)) part.one_is (first_is.simple.are_arcs part.place part.in_first))
    (ap (λ (n : NodeId). n.0) part.from_node)
    (subst (λ (a : ArcId). r id.0 a ≡ false) part.one_is (first_is.permitted part.place no_arc part.in_first)) in
    let other_in = other_right p r id at one other dealt.leaving dealt.are_leaving part.differ
    (subst (λ (a : ArcId). IsTrue (is_arc p a)) part.other_is (second_is.simple.are_arcs part.place part.in_second))
    (ap (λ (n : NodeId). n.0) part.other_from_node)
    (subst (λ (a : ArcId). r id.0 a ≡ false) part.other_is (second_is.permitted part.place no_arc part.in_second)) in
    (ap (λ (arcs : List ArcId). is_among arcs one) dealt.left_is ∙ one_in, ap (λ (arcs : List ArcId). is_among arcs other) dealt.right_is ∙ other_in)

-- arcs that are dealt where two permitted paths part make a split there
pub dealt-branching : (p : Parts) (r : Forbidden) (id : DemandId) (at : NodeId) (one other : ArcId) (first second left right : List ArcId) → id.0 < length p.demands → at.0 < p.nodes
    → IsPermittedPath p r id.0 first → IsPermittedPath p r id.0 second → PartAt p first second at one other → AreDealt p r id at one other left right → IsBranching p r id at left right
dealt-branching p r id at one other first second left right demand node first_is second_is part dealt =
    subst₂ (λ (x y : List ArcId). IsBranching p r id at x y) (sym dealt.left_is) (sym dealt.right_is) (record {
      is_split = record {
        demand = demand;
        node = node;
        left_side = side p r id at one other leaving are part.differ (goes_left r id.0 one other leaving) (left_allowed p r id at one other leaving are part.differ) (some_among _ one one_in);
        right_side = side p r id at one other leaving are part.differ (goes_right r id.0 one other leaving) (right_allowed p r id at one other leaving are part.differ) (some_among _ other other_in);
        disjoint = apart p r id at one other leaving are part.differ;
      };
      parts = (path_with p r id.0 _ first part.place one first_is part.in_first part.one_is one_in, path_with p r id.0 _ second part.place other second_is part.in_second part.other_is other_in);
      shares_out = shared_out p r id at one other leaving are part.differ;
      off_target = λ same. off_target p (demand_at p id.0) first part.place first_is.simple part.in_first (ap (λ (a : ArcId). (tail_of p a).0) part.one_is ∙ ap (λ (n : NodeId). n.0) part.from_node ∙ same);
      left_ascends = picked-ascending (goes_left r id.0 one other leaving) leaving (length leaving) (omega arith) are.ascending;
      right_ascends = picked-ascending (goes_right r id.0 one other leaving) leaving (length leaving) (omega arith) are.ascending;
    })
  where
    leaving : List ArcId
    leaving = dealt.leaving

    are : AreLeaving p at.0 leaving
    are = dealt.are_leaving

    among : (is_among left one ≡ true) × (is_among right other ≡ true)
    among = dealt-parted p r id at one other first second left right first_is second_is part dealt

    one_in : is_among (picked (goes_left r id.0 one other leaving) leaving (length leaving)) one ≡ true
    one_in = ap (λ (arcs : List ArcId). is_among arcs one) (sym dealt.left_is) ∙ among.0

    other_in : is_among (picked (goes_right r id.0 one other leaving) leaving (length leaving)) other ≡ true
    other_in = ap (λ (arcs : List ArcId). is_among arcs other) (sym dealt.right_is) ∙ among.1
