-- A split of loads where a step of a link ends leaves fewer loads at which ranges may be divided.
use Rattle.std.proofs.Common.{◌≡◌, ℕ, ◌+◌, ◌<◌, ◌≤◌, inl, inr, Bool, true, false, ◌&&◌, List, length, slice_index, refl, sym, subst, arith, if◌then◌else◌}
use Rattle.std.specs.Prelude.{nat_lt, nat_le}
use Rattle.std.proofs.lemmas.Bool.Decides.{nat_tests}
use Rattle.std.proofs.lemmas.List.{get_or-set_same}
use Rattle.plan_base.specs.declared.parts.Parts.{Parts}
use Rattle.plan_base.specs.Places.{places, link_of_place}
use Rattle.plan_base.proofs.PlaceSums.{link_of_place-within}
use Rattle.link_steps.specs.declared.range.LoadRange.{LoadRange}
use Rattle.link_steps.specs.Ranges.{no_range, range_at, ends_at, begins_at, with_range, AreRanges}
use Rattle.link_steps.proofs.Order.{either_way}
use Rattle.proof_tree.specs.Regions.{Region, up_to, above}
use Rattle.proof_tree.proofs.RangeLaws.{split-inside}
use Rattle.search_machine.specs.State.{LoadSplit}
use Rattle.search_machine.specs.Dividing.{PartsSteps}
use Rattle.search_machine.specs.Depth.{point_by, points_in, points_of, AreAllEnds}
use Rattle.search_machine.proofs.Choices.{sum_below-le, sum_below-less}
use Rattle.search_machine.proofs.Narrowing.{IsWithin, with_range-within, ends_at-within, begins_at-within}

-- One load

point-inside : (range : LoadRange) (load : ℕ) → range.least ≤ load → load < range.most → point_by range load ≡ 1
point-inside range load low high =
    let from : nat_le range.least load ≡ true = grind (arith, nat_tests) in
    let before : nat_lt load range.most ≡ true = grind (arith, nat_tests) in
    rw (from, before) refl

point-below : (range : LoadRange) (load : ℕ) → load < range.least → point_by range load ≡ 0
point-below range load below =
    let from : nat_le range.least load ≡ false = grind (arith, nat_tests) in
    rw from refl

point-past : (range : LoadRange) (load : ℕ) → range.most ≤ load → point_by range load ≡ 0
point-past range load past =
    let before : nat_lt load range.most ≡ false = grind (arith, nat_tests) in
    rw before (off (nat_le range.least load))
  where
    off : (b : Bool) → ◌≡◌ {A = ℕ} (if b && false then 1 else 0) 0
    off true = refl
    off false = refl

point-le : (inner outer : LoadRange) (load : ℕ) → IsWithin inner outer → point_by inner load ≤ point_by outer load
point-le inner outer load h = elim (either_way inner.least load) [
  | inr below ↦ le _ _ (point-below inner load below)
  | inl from ↦ elim (either_way inner.most load) [
    | inl past ↦ le _ _ (point-past inner load past)
    | inr before ↦ both _ _ (point-inside inner load from before) (point-inside outer load (omega (arith, h.least, from)) (omega (arith, h.most, before)))
  ]
]
  where
    le : (a b : ℕ) → a ≡ 0 → a ≤ b
    le a b e = omega arith

    both : (a b : ℕ) → a ≡ 1 → b ≡ 1 → a ≤ b
    both a b x y = omega arith

-- The loads of a place

points_in-le : (loads : List ℕ) (inner outer : LoadRange) → IsWithin inner outer → points_in loads inner ≤ points_in loads outer
points_in-le loads inner outer h =
    sum_below-le (λ i. point_by inner (slice_index loads i)) (λ i. point_by outer (slice_index loads i)) (length loads) (λ i below. point-le inner outer (slice_index loads i) h)

-- a load of the list that was a point and is none
points_in-less : (loads : List ℕ) (inner outer : LoadRange) (i load : ℕ) → IsWithin inner outer → i < length loads → slice_index loads i ≡ load
    → point_by inner load ≡ 0 → point_by outer load ≡ 1 → points_in loads inner < points_in loads outer
points_in-less loads inner outer i load h within at none one =
    sum_below-less (λ i. point_by inner (slice_index loads i)) (λ i. point_by outer (slice_index loads i)) (length loads) i within
    (λ j below. point-le inner outer (slice_index loads j) h)
    (subst (λ (x : ℕ). point_by inner x < point_by outer x) (sym at) (less _ _ none one))
  where
    less : (a b : ℕ) → a ≡ 0 → b ≡ 1 → a < b
    less a b x y = omega arith

-- All places

module _ (p : Parts) (ends : ℕ → List ℕ) (ranges : List LoadRange) (d : LoadSplit) (are_ends : AreAllEnds p ends) (are : AreRanges p ranges) (parts : PartsSteps p ranges d) where
  -- the place is given less of its range, without the load of the split
  points-less : (range : LoadRange) → IsWithin range (range_at ranges d.place) → point_by range d.load ≡ 0
      → points_of p ends (with_range ranges d.place range) < points_of p ends ranges
  points-less range within none =
      let split = parts.is_split in
      let inside = split-inside p ranges d.place d.load split in
      let e = link_of_place p d.place in
      let low = split.some_left in
      let high = split.some_right in
      let had = are.each d.place split.is_place in
      let at = (are_ends e (link_of_place-within p d.place split.is_place)).all d.load (omega (arith, high, had.carried)) parts.is_end in
      let one : point_by (range_at ranges d.place) d.load ≡ 1 = point-inside (range_at ranges d.place) d.load low high in
      let fewer : points_in (ends e) range < points_in (ends e) (range_at ranges d.place) = points_in-less (ends e) range (range_at ranges d.place) at.0 d.load within at.1 at.2 none one in
      sum_below-less (λ q. points_in (ends (link_of_place p q)) (range_at (with_range ranges d.place range) q)) (λ q. points_in (ends (link_of_place p q)) (range_at ranges q)) (places p) d.place split.is_place
      (λ q below. points_in-le (ends (link_of_place p q)) (range_at (with_range ranges d.place range) q) (range_at ranges q) (with_range-within ranges d.place range inside within q))
      (subst (λ (r : LoadRange). points_in (ends e) r < points_in (ends e) (range_at ranges d.place)) (sym (get_or-set_same ranges d.place range no_range inside)) fewer)

-- the left child of a split of loads has fewer loads at which ranges may be divided
pub points-up_to : (p : Parts) (ends : ℕ → List ℕ) (g : Region) (d : LoadSplit) → AreAllEnds p ends → AreRanges p g.ranges → PartsSteps p g.ranges d
    → points_of p ends (up_to g d.place d.load).ranges < points_of p ends g.ranges
points-up_to p ends g d are_ends are parts =
    let range = range_at g.ranges d.place in
    points-less p ends g.ranges d are_ends are parts (ends_at range d.load) (ends_at-within range d.load parts.is_split.some_right) (point-past (ends_at range d.load) d.load (omega arith))

-- the right child of a split of loads has fewer loads at which ranges may be divided
pub points-above : (p : Parts) (ends : ℕ → List ℕ) (g : Region) (d : LoadSplit) → AreAllEnds p ends → AreRanges p g.ranges → PartsSteps p g.ranges d
    → points_of p ends (above g d.place d.load).ranges < points_of p ends g.ranges
points-above p ends g d are_ends are parts =
    let range = range_at g.ranges d.place in
    points-less p ends g.ranges d are_ends are parts (begins_at range (d.load + 1)) (begins_at-within range d.load parts.is_split.some_left) (point-below (begins_at range (d.load + 1)) d.load (omega arith))
