-- Each link has one list of the loads at which its steps end, so each instance has one branching depth.
use Rattle.std.proofs.Common.{◌≡◌, ℕ, zero, suc, ◌+◌, ◌<◌, ◌≤◌, ◌⊎◌, inl, inr, List, [], ◌∷◌, ◌++◌, length, slice_index, refl, sym, ap, subst, ◌∙◌, arith}
use Rattle.std.proofs.lemmas.List.{length_push, get_or_append_left, get_or_push, ext_get_or}
use Rattle.plan_base.specs.declared.parts.Parts.{Parts}
use Rattle.plan_base.specs.Facts.{top_load}
use Rattle.plan_base.specs.Arcs.{link_at}
use Rattle.plan_base.specs.Places.{places, link_of_place}
use Rattle.plan_base.proofs.PlaceSums.{link_of_place-within}
use Rattle.plan_base.proofs.SumsBelow.{sum_below-same}
use Rattle.link_steps.specs.Costs.{IsStepEnd}
use Rattle.link_steps.specs.Ranges.{range_at, whole_ranges}
use Rattle.link_steps.proofs.Order.{either_way, before_or_last}
use Rattle.link_steps.proofs.Carrying.{top-can_carry}
use Rattle.link_steps.proofs.LeastCosts.{least_cost-exists}
use Rattle.link_steps.proofs.Reached.{least-unique}
use Rattle.arc_restrict.specs.Restrictions.{none_forbidden}
use Rattle.proof_tree.specs.Regions.{whole}
use Rattle.search_machine.specs.Depth.{choices_of, points_in, AreStepEndsBelow, depth_below, IsBranchingDepth}

-- A list is there

-- below its top load a link has a step that ends at a load, or none
end-or_none : (p : Parts) (e load : ℕ) → load < top_load p (link_at p e) → IsStepEnd p e load ⊎ (IsStepEnd p e load → ⊥)
end-or_none p e load below =
    let l = link_at p e in
    let here = least_cost-exists l load (top-can_carry p l load (omega (arith, below))) in
    let next = least_cost-exists l (load + 1) (top-can_carry p l (load + 1) (omega (arith, below))) in
    elim (either_way next.0 here.0) [
      | inr dearer ↦ inl (record {
        cost = here.0;
        is_least = here.1;
        next = λ more is. (let same = least-unique l (load + 1) more next.0 is next.1 in omega (arith, dearer, same));
      })
      | inl not_dearer ↦ inr (λ end. (let same = least-unique l load end.cost here.0 end.is_least here.1 in let less = end.next next.0 next.1 in omega (arith, not_dearer, same, less)))
    ]

-- a step ends at the next load
ends-push : (p : Parts) (e n : ℕ) (loads : List ℕ) → IsStepEnd p e n → AreStepEndsBelow p e n loads → AreStepEndsBelow p e (suc n) (loads ++ (n ∷ []))
ends-push p e n loads end are = record {
  rising = λ i j less within.
      elim (before_or_last j (length loads) (omega (arith, within, length_push loads n))) [
        | inl before ↦ omega (arith, old i (omega (arith, less, before)), old j before, are.rising i j less before)
        | inr at ↦ omega (arith, old i (omega (arith, less, at)), last j at, (are.each i (omega (arith, less, at))).1)
      ];
  each = λ i within.
      elim (before_or_last i (length loads) (omega (arith, within, length_push loads n))) [
        | inl before ↦ (subst (IsStepEnd p e) (sym (old i before)) (are.each i before).0, omega (arith, old i before, (are.each i before).1))
        | inr at ↦ (subst (IsStepEnd p e) (sym (last i at)) end, omega (arith, last i at))
      ];
  all = λ load below is.
      elim (before_or_last load n (omega (arith, below))) [
        | inl before ↦ (let found = are.all load before is in (found.0, omega (arith, found.1, length_push loads n), old found.0 found.1 ∙ found.2))
        | inr at ↦ (length loads, omega (arith, length_push loads n), last (length loads) refl ∙ sym at)
      ];
}
  where
    old : (i : ℕ) → i < length loads → slice_index (loads ++ (n ∷ [])) i ≡ slice_index loads i
    old i below = get_or_append_left loads (n ∷ []) 0 i below

    last : (i : ℕ) → i ≡ length loads → slice_index (loads ++ (n ∷ [])) i ≡ n
    last i at = get_or_push loads n 0 i (sym at)

-- no step ends at the next load
ends-skip : (p : Parts) (e n : ℕ) (loads : List ℕ) → (IsStepEnd p e n → ⊥) → AreStepEndsBelow p e n loads → AreStepEndsBelow p e (suc n) loads
ends-skip p e n loads none are = record {
  rising = are.rising;
  each = λ i within. ((are.each i within).0, omega (arith, (are.each i within).1));
  all = λ load below is.
      elim (before_or_last load n (omega (arith, below))) [
        | inl before ↦ are.all load before is
        | inr at ↦ absurd (none (subst (IsStepEnd p e) at is))
      ];
}

abbrev HasEndsBelow : Parts → ℕ → ℕ → Type 0
HasEndsBelow p e n = (loads : List ℕ) × AreStepEndsBelow p e n loads

ends-below : (p : Parts) (e n : ℕ) → n ≤ top_load p (link_at p e) → HasEndsBelow p e n
ends-below p e zero h = ([], record { rising = λ i j less within. absurd (omega arith); each = λ i within. absurd (omega arith); all = λ load below is. absurd (omega arith) })
ends-below p e (suc n) h = by (end-or_none p e n (omega arith)) (ends-below p e n (omega arith))
  where
    by : IsStepEnd p e n ⊎ (IsStepEnd p e n → ⊥) → HasEndsBelow p e n → HasEndsBelow p e (suc n)
    by (inl end) before = (before.0 ++ (n ∷ []), ends-push p e n before.0 end before.1)
    by (inr none) before = (before.0, ends-skip p e n before.0 none before.1)

-- each instance has a branching depth
pub some-depth : (p : Parts) → (depth : ℕ) × IsBranchingDepth p depth
some-depth p =
    let lists = λ (e : ℕ). ends-below p e (top_load p (link_at p e)) (omega arith) in
    let ends = λ (e : ℕ). (lists e).0 in
    (depth_below p ends (whole p), record { ends = ends; are_ends = λ e within. (lists e).1; is_depth = refl })

-- and one alone

rising-le : (loads : List ℕ) (i j : ℕ) → ((i j : ℕ) → i < j → j < length loads → slice_index loads i < slice_index loads j) → i ≤ j → j < length loads → slice_index loads i ≤ slice_index loads j
rising-le loads i j rising le within = elim (before_or_last i j (omega (arith, le))) [
  | inl before ↦ omega (arith, rising i j before within)
  | inr same ↦ (let e = ap (slice_index loads) same in omega (arith, e))
]

module _ (p : Parts) (e top : ℕ) where
  -- where the one list has a place, the other one has it too, with no greater load
  place-le : (xs ys : List ℕ) → AreStepEndsBelow p e top xs → AreStepEndsBelow p e top ys → (i : ℕ) → i < length xs → (i < length ys) × (slice_index ys i ≤ slice_index xs i)
  place-le xs ys h k zero within =
      let found = k.all (slice_index xs 0) (h.each 0 within).1 (h.each 0 within).0 in
      let less = rising-le ys 0 found.0 k.rising (omega arith) found.1 in
      (omega (arith, found.1), omega (arith, less, found.2))
  place-le xs ys h k (suc i) within =
      let before = place-le xs ys h k i (omega arith) in
      let found = k.all (slice_index xs (suc i)) (h.each (suc i) within).1 (h.each (suc i) within).0 in
      let rises = h.rising i (suc i) (omega arith) within in
      elim (either_way (suc i) found.0) [
        | inl later ↦ (let less = rising-le ys (suc i) found.0 k.rising later found.1 in (omega (arith, later, found.1), omega (arith, less, found.2)))
        | inr earlier ↦ absurd (let less = rising-le ys found.0 i k.rising (omega (arith, earlier)) before.0 in omega (arith, less, before.1, rises, found.2))
      ]

  no-longer : (xs ys : List ℕ) → AreStepEndsBelow p e top xs → AreStepEndsBelow p e top ys → length xs ≤ length ys
  no-longer xs ys h k = elim (either_way (length xs) (length ys)) [
    | inl le ↦ le
    | inr longer ↦ absurd (let there = (place-le xs ys h k (length ys) longer).0 in omega (arith, there))
  ]

  lists-same : (xs ys : List ℕ) → AreStepEndsBelow p e top xs → AreStepEndsBelow p e top ys → xs ≡ ys
  lists-same xs ys h k =
      ext_get_or 0 xs ys (omega (arith, no-longer xs ys h k, no-longer ys xs k h))
      (λ i within. (let one = place-le xs ys h k i within in let other = place-le ys xs k h i one.0 in omega (arith, one.1, other.1)))

-- an instance has no two branching depths
pub depth-unique : (p : Parts) (depth other : ℕ) → IsBranchingDepth p depth → IsBranchingDepth p other → depth ≡ other
depth-unique p depth other h k =
    h.is_depth
    ∙ ap (λ (n : ℕ). choices_of p none_forbidden + n)
    (sum_below-same (λ q. points_in (h.ends (link_of_place p q)) (range_at (whole_ranges p) q)) (λ q. points_in (k.ends (link_of_place p q)) (range_at (whole_ranges p) q)) (places p)
    (λ q below.
    let e = link_of_place p q in
    let within = link_of_place-within p q below in
    ap (λ (loads : List ℕ). points_in loads (range_at (whole_ranges p) q)) (lists-same p e (top_load p (link_at p e)) (h.ends e) (k.ends e) (h.are_ends e within) (k.are_ends e within))))
    ∙ sym k.is_depth
