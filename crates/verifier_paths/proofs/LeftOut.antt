-- Another path leaves out an arc of the first.
use Rattle.std.proofs.Common.{◌≡◌, ◌≢◌, ℕ, zero, suc, ◌+◌, ◌<◌, ◌≤◌, ◌⊎◌, inl, inr, true, false, List, [], ◌∷◌, ◌++◌, length, Option, Some, None, is_some, IfNone, IsTrue, refl, sym, ap, subst, ◌∙◌, arith, length-append}
use Rattle.std.proofs.Math.Seq.{get_or-append_seam}
use Rattle.std.proofs.lemmas.Bool.{cases_eq, cases_order, ne_eqb}
use Rattle.std.proofs.lemmas.List.{same_lists, get_or_default, get_or_append_left}
use Rattle.std.proofs.lemmas.List.Elements.{All-from_get_or, All-weaker}
use Rattle.plan_base.specs.declared.ids.ArcId.{ArcId}
use Rattle.plan_base.specs.declared.parts.Parts.{Parts}
use Rattle.plan_base.specs.Arcs.{tail_of, head_of, no_arc, demand_at}
use Rattle.plan_base.specs.Paths.{arc_at, node_at}
use Rattle.arc_restrict.specs.Restrictions.{Forbidden, IsPermittedPath, IsOnlyPath}
use Rattle.verifier_paths.specs.Labels.{may_take}
use Rattle.verifier_paths.specs.OnlyPaths.{IsPathOf, path_in, ArePathsTo, HavePaths, HasSecond}
use Rattle.verifier_paths.proofs.Offers.{before_or_at, arc_of}
use Rattle.verifier_paths.proofs.LeastPrices.{taken_permitted, takes_of, path-taken}

-- ---- paths that may be taken are permitted

-- a path of arcs that may be taken is permitted
pub permitted_of_path : (p : Parts) (r : Forbidden) (k : ℕ) (out : Option ArcId) (arcs : List ArcId) → IsPathOf p (may_take p r k out) k arcs → IsPermittedPath p r k arcs
permitted_of_path p r k out arcs h = record {
  simple = h.simple;
  permitted = All-weaker (λ a. IsTrue (may_take p r k out a)) (λ a. r k a ≡ false) (λ a taken. taken_permitted p r k out a taken) arcs h.taken;
}

-- a permitted path is one of arcs that may be taken
pub path_of_permitted : (p : Parts) (r : Forbidden) (k : ℕ) (arcs : List ArcId) → IsPermittedPath p r k arcs → IsPathOf p (may_take p r k None) k arcs
path_of_permitted p r k arcs h = record { simple = h.simple; taken = path-taken p r k arcs h }

-- ---- a path that does not leave out an arc

-- the arcs hold this one
record HasPlace (arcs : List ArcId) (a : ArcId) : Type 0 where
  place : ℕ
  within : place < length arcs
  is : arc_at arcs place ≡ a

-- the arcs hold this one, or each is another
held_or_not : (a : ArcId) (arcs : List ArcId) → HasPlace arcs a ⊎ ((i : ℕ) → i < length arcs → a.0 ≢ (arc_at arcs i).0)
held_or_not a [] = inr (λ i within. absurd (omega (arith, within)))
held_or_not a (b ∷ arcs) = elim (cases_eq a.0 b.0) [
  | inl same ↦ inl (record { place = 0; within = omega arith; is = sym (ap arc_of same) })
  | inr other ↦ elim (held_or_not a arcs) [
    | inl h ↦ inl (record { place = suc h.place; within = omega (arith, h.within); is = h.is })
    | inr none ↦ inr (not_one other none)
  ]
]
  where
    not_one : a.0 ≢ b.0 → ((i : ℕ) → i < length arcs → a.0 ≢ (arc_at arcs i).0) → (i : ℕ) → i < length (b ∷ arcs) → a.0 ≢ (arc_at (b ∷ arcs) i).0
    not_one other none zero within = other
    not_one other none (suc i) within = none i (omega (arith, within))

-- no path of the demand leaves out the arc of this place
abbrev pub HasNoneWithout : Parts → Forbidden → ℕ → List ArcId → ℕ → Type 0
HasNoneWithout p r k path i = (others : List ArcId) → IsPathOf p (may_take p r k (Some (arc_at path i))) k others → ⊥

held : (p : Parts) (r : Forbidden) (k : ℕ) (path others : List ArcId) (i : ℕ) → IsPermittedPath p r k others → HasNoneWithout p r k path i → HasPlace others (arc_at path i)
held p r k path others i h none = elim (held_or_not (arc_at path i) others) [
  | inl here ↦ here
  | inr apart ↦ absurd (none others (record {
    simple = h.simple;
    taken = All-from_get_or (λ a. IsTrue (may_take p r k (Some (arc_at path i)) a)) others no_arc
        (λ j within. takes_of p r k (Some (arc_at path i)) (arc_at others j) (h.simple.are_arcs j within) (h.permitted j no_arc within) (ne_eqb _ _ (apart j within)));
  }))
]

-- the other path has the same arc at the place
record IsSameAt (path others : List ArcId) (i : ℕ) : Type 0 where
  within : i < length others
  is : arc_at others i ≡ arc_at path i

-- where the paths are at the same node, and the other holds the path's next arc, it goes on along it
same_next : (p : Parts) (r : Forbidden) (k : ℕ) (path others : List ArcId) (i : ℕ) → IsPermittedPath p r k path → IsPermittedPath p r k others → i < length path → i ≤ length others
    → node_at p (demand_at p k).source others i ≡ node_at p (demand_at p k).source path i → HasPlace others (arc_at path i) → IsSameAt path others i
same_next p r k path others i path_is others_is within upto node here = elim (cases_order i here.place) [
  | inl same ↦ record { within = omega (arith, same, here.within); is = ap (arc_at others) same ∙ here.is }
  | inr apart ↦ elim apart [
    | inl before ↦ absurd (others_is.simple.no_node_twice i here.place before (omega (arith, here.within)) back)
    | inr after ↦ absurd (others_is.simple.no_node_twice here.place i after upto (sym back))
  ]
]
  where
    back : node_at p (demand_at p k).source others i ≡ node_at p (demand_at p k).source others here.place
    back = node ∙ sym (path_is.simple.goes_on i within) ∙ ap (λ (a : ArcId). (tail_of p a).0) (sym here.is) ∙ others_is.simple.goes_on here.place here.within

same_at : (p : Parts) (r : Forbidden) (k : ℕ) (path others : List ArcId) → IsPermittedPath p r k path → IsPermittedPath p r k others → ((i : ℕ) → i < length path → HasNoneWithout p r k path i)
    → (i : ℕ) → i < length path → IsSameAt path others i
same_at p r k path others path_is others_is none zero within = same_next p r k path others 0 path_is others_is within (omega arith) refl (held p r k path others 0 others_is (none 0 within))
same_at p r k path others path_is others_is none (suc i) within =
    let before = same_at p r k path others path_is others_is none i (omega (arith, within)) in
    same_next p r k path others (suc i) path_is others_is within (omega (arith, before.within)) (ap (λ (a : ArcId). (head_of p a).0) before.is) (held p r k path others (suc i) others_is (none (suc i) within))

node_after : (p : Parts) (k : ℕ) (path others : List ArcId) (n : ℕ) → ((i : ℕ) → i < n → IsSameAt path others i) → (n ≤ length others) × (node_at p (demand_at p k).source others n ≡ node_at p (demand_at p k).source path n)
node_after p k path others zero same = (omega arith, refl)
node_after p k path others (suc n) same = let last = same n (omega arith) in (omega (arith, last.within), ap (λ (a : ArcId). (head_of p a).0) last.is)

-- where each arc of the path is in each permitted path, the path is the only one
pub only_of_left_out : (p : Parts) (r : Forbidden) (k : ℕ) (path : List ArcId) → IsPermittedPath p r k path → ((i : ℕ) → i < length path → HasNoneWithout p r k path i) → IsOnlyPath p r k path
only_of_left_out p r k path path_is none = record { permitted = path_is; only = only }
  where
    only : (others : List ArcId) → IsPermittedPath p r k others → others ≡ path
    only others others_is =
        let same = same_at p r k path others path_is others_is none in
        let after = node_after p k path others (length path) same in
        elim (cases_order (length others) (length path)) [
          | inl equal ↦ same_lists others path equal (λ i d below.
              let at = same i (omega (arith, below, equal)) in
              get_or_default others i d no_arc below ∙ at.is ∙ get_or_default path i no_arc d (omega (arith, below, equal)))
          | inr apart ↦ elim apart [
            | inl shorter ↦ (let upto = after.0 in absurd (omega (arith, shorter, upto)))
            | inr longer ↦ absurd (others_is.simple.no_node_twice (length path) (length others) longer (omega arith) (after.1 ∙ path_is.simple.ends_at_target ∙ sym others_is.simple.ends_at_target))
          ]
        ]

-- ---- all demands

path_before : (paths : List (List ArcId)) (path : List ArcId) (k : ℕ) → k < length paths → path_in (paths ++ path ∷ []) k ≡ path_in paths k
path_before paths path k within = get_or_append_left paths (path ∷ []) [] k within

path_last : (paths : List (List ArcId)) (path : List ArcId) → path_in (paths ++ path ∷ []) (length paths) ≡ path
path_last paths path = get_or-append_seam paths path [] []

-- a path of one demand more
pub paths_more : (p : Parts) (r : Forbidden) (n : ℕ) (paths : List (List ArcId)) (path : List ArcId) → ArePathsTo p r n paths → IsPathOf p (may_take p r n None) n path → ArePathsTo p r (n + 1) (paths ++ path ∷ [])
paths_more p r n paths path h is = record {
  count = length-append paths (path ∷ []) ∙ ap (λ m. m + 1) h.count;
  each = λ k below. elim (before_or_at k n below) [
    | inl before ↦ subst (IsPermittedPath p r k) (sym (path_before paths path k (omega (arith, before, h.count)))) (h.each k before)
    | inr here ↦ subst (λ (m : ℕ). IsPermittedPath p r m (path_in (paths ++ path ∷ []) m)) (sym here)
        (subst (IsPermittedPath p r n) (sym (subst (λ (m : ℕ). path_in (paths ++ path ∷ []) m ≡ path) h.count (path_last paths path))) (permitted_of_path p r n None path is))
  ];
}

-- a demand without a path
pub no_paths : (p : Parts) (r : Forbidden) (k : ℕ) → k < length p.demands → ((arcs : List ArcId) → IsPathOf p (may_take p r k None) k arcs → ⊥) → HavePaths p r → ⊥
no_paths p r k within none have = let path = have k within in none path.0 (path_of_permitted p r k path.0 path.1)

-- paths of all demands
pub have_paths : (p : Parts) (r : Forbidden) (paths : List (List ArcId)) → ArePathsTo p r (length p.demands) paths → HavePaths p r
have_paths p r paths h k within = (path_in paths k, h.each k within)

-- a demand with a second path
pub has_second : (p : Parts) (r : Forbidden) (k : ℕ) (path : List ArcId) → k < length p.demands → IsPermittedPath p r k path → (IsOnlyPath p r k path → ⊥) → HasSecond p r
has_second p r k path within path_is second = record {
  demand = k;
  within = within;
  second = λ arcs only. second (subst (IsOnlyPath p r k) (sym (only.only path path_is)) only);
}

-- ---- what a search answers

-- one place more of which no path leaves out the arc, where none was found
pub none_more : (p : Parts) (r : Forbidden) (k : ℕ) (path : List ArcId) (n : ℕ) (found : Option (List ArcId)) → false ≡ is_some found → IfNone found (HasNoneWithout p r k path n)
    → ((i : ℕ) → i < n → HasNoneWithout p r k path i) → (i : ℕ) → i < n + 1 → HasNoneWithout p r k path i
none_more p r k path n (Some others) none here before i below = absurd (let bad : false ≡ true = none in cc)
none_more p r k path n None none here before i below = elim (before_or_at i n below) [
  | inl earlier ↦ before i earlier
  | inr is ↦ subst (HasNoneWithout p r k path) (sym is) here
]
