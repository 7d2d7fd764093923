-- Ranges stay ranges where a place's loads are split, and a feasible design lies in the whole region and in exactly one child of such a split.
use Rattle.std.proofs.Common.{◌≡◌, ℕ, zero, suc, ◌+◌, ◌*◌, ◌<◌, ◌≤◌, ◌⊎◌, inl, inr, Bool, true, false, List, [], ◌∷◌, length, if◌then◌else◌, refl, sym, ap, subst, ◌∙◌, arith}
use Rattle.std.proofs.lemmas.List.{length-set, length_push, get_or_append_left, get_or_push, get_or_past, get_or-set_same, get_or-set_other, set-set, set-get_or}
use Rattle.plan_base.specs.declared.parts.Parts.{Parts}
use Rattle.plan_base.specs.declared.path.Design.{Design}
use Rattle.plan_base.specs.Facts.{top_load}
use Rattle.plan_base.specs.Arcs.{link_at}
use Rattle.plan_base.specs.Places.{is_two_way, places, link_of_place}
use Rattle.plan_base.specs.Designs.{load_at, need, counts_at, IsDesign, IsFeasible}
use Rattle.plan_base.proofs.LoadLaws.{need-le-total}
use Rattle.plan_base.proofs.PlaceSums.{there-within, link_of_place-within, place-le-larger}
use Rattle.link_steps.specs.declared.range.LoadRange.{LoadRange}
use Rattle.link_steps.specs.Costs.{Carries}
use Rattle.link_steps.specs.Ranges.{no_range, range_at, whole_range, whole_before, whole_ranges, ends_at, begins_at, with_range, IsIn, IsRange, AreRanges}
use Rattle.link_steps.proofs.Order.{either_way, before_or_last, same_or_not}
use Rattle.link_steps.proofs.Carrying.{carried-le-top}
use Rattle.proof_tree.specs.Regions.{Region, whole, up_to, above, AreInRange, LiesWithin, IsLoadSplit}

length-whole_before : (p : Parts) (n : ℕ) → length (whole_before p n) ≡ n
length-whole_before p zero = refl
length-whole_before p (suc n) = omega (arith, length_push (whole_before p n) (whole_range p n), length-whole_before p n)

whole_before-at : (p : Parts) (n q : ℕ) → q < n → range_at (whole_before p n) q ≡ whole_range p q
whole_before-at p zero q below = absurd (omega arith)
whole_before-at p (suc n) q below = elim (before_or_last q n (omega arith)) [
  | inl before ↦ get_or_append_left (whole_before p n) (whole_range p n ∷ []) no_range q (omega (arith, length-whole_before p n, before)) ∙ whole_before-at p n q before
  | inr last ↦ get_or_push (whole_before p n) (whole_range p n) no_range q (length-whole_before p n ∙ sym last) ∙ ap (whole_range p) (sym last)
]

-- the range of a place among the whole ranges
pub whole-at : (p : Parts) (q : ℕ) → q < places p → range_at (whole_ranges p) q ≡ whole_range p q
whole-at p q below = whole_before-at p (places p) q below

-- A range that is set.

-- what holds of the range that a place is given and of what the places had holds of what they have
pub with_range-fits : (P : ℕ → LoadRange → Type 0) (ranges : List LoadRange) (place : ℕ) (range : LoadRange) (q : ℕ) → place < length ranges → P place range → P q (range_at ranges q) → P q (range_at (with_range ranges place range) q)
with_range-fits P ranges place range q inside here there = elim (same_or_not q place) [
  | inl same ↦ subst (λ (n : ℕ). P n (range_at (with_range ranges place range) n)) (sym same) (subst (P place) (sym (get_or-set_same ranges place range no_range inside)) here)
  | inr other ↦ subst (P q) (sym (get_or-set_other ranges place q range no_range other)) there
]

-- ranges with one of a place's loads in place of its range are ranges
pub AreRanges-with : (p : Parts) (ranges : List LoadRange) (place : ℕ) (range : LoadRange) → AreRanges p ranges → place < places p → IsRange (top_load p (link_at p (link_of_place p place))) range → AreRanges p (with_range ranges place range)
AreRanges-with p ranges place range are is_place is = record {
  count = length-set ranges place range ∙ are.count;
  each = λ q below. with_range-fits (λ n r. IsRange (top_load p (link_at p (link_of_place p n))) r) ranges place range q (omega (arith, are.count, is_place)) is (are.each q below);
}

-- where a place is given another range, and then the one that it had, all ranges are what they were
pub with_range-back : (ranges : List LoadRange) (place : ℕ) (range : LoadRange) → with_range (with_range ranges place range) place (range_at ranges place) ≡ ranges
with_range-back ranges place range = set-set ranges place range (range_at ranges place) ∙ set-get_or ranges place no_range

-- the last range that a place is given counts alone
pub with_range-twice : (ranges : List LoadRange) (place : ℕ) (one other : LoadRange) → with_range (with_range ranges place one) place other ≡ with_range ranges place other
with_range-twice ranges place one other = set-set ranges place one other

-- Splits of loads.

-- a place whose loads are split has a range
pub split-inside : (p : Parts) (ranges : List LoadRange) (place load : ℕ) → IsLoadSplit p ranges place load → place < length ranges
split-inside p ranges place load split = elim (either_way (length ranges) place) [
  | inl past ↦ absurd (let none : (range_at ranges place).most ≡ 0 = ap (λ (r : LoadRange). r.most) (get_or_past ranges place no_range past) in let right = split.some_right in omega (arith, none, right))
  | inr inside ↦ inside
]

-- the children of a split of loads have ranges
pub AreRanges-up_to : (p : Parts) (g : Region) (place load : ℕ) → IsLoadSplit p g.ranges place load → AreRanges p g.ranges → AreRanges p (up_to g place load).ranges
AreRanges-up_to p g place load split are =
    let had = are.each place split.is_place in
    AreRanges-with p g.ranges place (ends_at (range_at g.ranges place) load) are split.is_place (record { some = split.some_left; carried = omega (arith, had.carried, split.some_right) })

-- where a place's loads are split, the child with the greater loads has ranges
pub AreRanges-above : (p : Parts) (g : Region) (place load : ℕ) → IsLoadSplit p g.ranges place load → AreRanges p g.ranges → AreRanges p (above g place load).ranges
AreRanges-above p g place load split are =
    let had = are.each place split.is_place in
    AreRanges-with p g.ranges place (begins_at (range_at g.ranges place) (load + 1)) are split.is_place (record { some = omega (arith, split.some_right); carried = had.carried })

-- a split of loads loses no design
pub in_one_range : (p : Parts) (d : Design) (g : Region) (place load : ℕ) → IsLoadSplit p g.ranges place load → LiesWithin p d g → LiesWithin p d (up_to g place load) ⊎ LiesWithin p d (above g place load)
in_one_range p d g place load split lies =
    let inside = split-inside p g.ranges place load split in
    let had = lies.loads place split.is_place in
    elim (either_way (load_at p d place) load) [
      | inl few ↦ inl (record { paths = lies.paths; loads = λ q within. with_range-fits (λ n r. IsIn r (load_at p d n)) g.ranges place (ends_at (range_at g.ranges place) load) q inside (record { enough = had.enough; few = few }) (lies.loads q within) })
      | inr many ↦ inr (record { paths = lies.paths; loads = λ q within. with_range-fits (λ n r. IsIn r (load_at p d n)) g.ranges place (begins_at (range_at g.ranges place) (load + 1)) q inside (record { enough = omega (arith, many); few = had.few }) (lies.loads q within) })
    ]

-- no design lies in both children
pub not_in_both : (p : Parts) (d : Design) (g : Region) (place load : ℕ) → IsLoadSplit p g.ranges place load → LiesWithin p d (up_to g place load) → LiesWithin p d (above g place load) → ⊥
not_in_both p d g place load split left right =
    let inside = split-inside p g.ranges place load split in
    let given = λ (range : LoadRange). get_or-set_same g.ranges place range no_range inside in
    let low = subst (λ (r : LoadRange). IsIn r (load_at p d place)) (given (ends_at (range_at g.ranges place) load)) (left.loads place split.is_place) in
    let high = subst (λ (r : LoadRange). IsIn r (load_at p d place)) (given (begins_at (range_at g.ranges place) (load + 1))) (right.loads place split.is_place) in
    omega (arith, low.few, high.enough)

-- Loads of a feasible design.

-- the counts of a feasible design carry what each link needs
pub Carries-feasible : (p : Parts) (d : Design) (e : ℕ) → IsDesign p d → IsFeasible p d → e < length p.links → Carries p e (need p d e) (counts_at d e)
Carries-feasible p d e design feasible within = record { count = design.counts e within; lawful = design.lawful e within; enough = feasible.carried e within }

-- a feasible design's load on a place is at most the top load of its link
load-le-top : (p : Parts) (d : Design) (q : ℕ) → IsDesign p d → IsFeasible p d → q < places p → load_at p d q ≤ top_load p (link_at p (link_of_place p q))
load-le-top p d q design feasible within =
    let e = link_of_place p q in
    let larger : load_at p d q ≤ need p d e = place-le-larger p (load_at p d) q in
    let top = carried-le-top p (link_at p e) (need p d e) (need-le-total p d e) (counts_at d e, Carries-feasible p d e design feasible (link_of_place-within p q within)) in
    omega (arith, larger, top)

-- a feasible design lies in the whole region
pub lies-whole : (p : Parts) (d : Design) → IsDesign p d → IsFeasible p d → LiesWithin p d (whole p)
lies-whole p d design feasible = record {
  paths = λ k below i dflt within. refl;
  loads = λ q within. subst (λ (r : LoadRange). IsIn r (load_at p d q)) (sym (whole-at p q within)) (record { enough = omega arith; few = load-le-top p d q design feasible within });
}

-- the loads of a link's places are in range where all loads are
pub loads-in_range : (p : Parts) (d : Design) (g : Region) (e : ℕ) → e < length p.links → LiesWithin p d g → AreInRange p g.ranges d e
loads-in_range p d g e within lies = record { there = lies.loads _ (there-within p e within); back = by_cases (is_two_way p.orient) lies.loads }
  where
    by_cases : (b : Bool) → ((q : ℕ) → q < (if b then 2 * length p.links else length p.links) → IsIn (range_at g.ranges q) (load_at p d q)) → IsIn (if b then range_at g.ranges (2 * e + 1) else no_range) (if b then load_at p d (2 * e + 1) else 0)
    by_cases true loads = loads (2 * e + 1) (omega (arith, within))
    by_cases false loads = record { enough = omega arith; few = omega arith }
