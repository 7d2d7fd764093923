-- From the places of links to all places.
use Rattle.std.proofs.Common.{◌≡◌, ℕ, ◌+◌, ◌*◌, ◌/◌, ◌<◌, ◌≤◌, ◌⊎◌, inl, inr, Bool, true, false, List, length, if◌then◌else◌, sym, ap, ◌∙◌, arith}
use Rattle.plan_base.specs.declared.parts.Parts.{Parts}
use Rattle.plan_base.specs.Facts.{total_load, top_load}
use Rattle.plan_base.specs.Arcs.{link_at}
use Rattle.plan_base.specs.Places.{is_two_way, places, link_of_place, there_of, back_of}
use Rattle.plan_base.proofs.PlaceSums.{link_of_place-within, place-le-larger}
use Rattle.plan_base.proofs.TopLoads.{top-le}
use Rattle.link_steps.specs.declared.range.LoadRange.{LoadRange}
use Rattle.link_steps.specs.Ranges.{IsIn, IsRange, AreRanges}
use Rattle.link_steps.specs.Values.{top_back}
use Rattle.link_steps.proofs.WholeRanges.{ranges_of-link}
use Rattle.proof_tree.specs.declared.cuts.Cut.{Cut}
use Rattle.master_step.specs.Trials.{AreValueLoads}

-- what is the same at each link's places is the same at each place
pub places-same : (p : Parts) (f g : ℕ → ℕ) (q : ℕ) → q < places p → ((e : ℕ) → e < length p.links → (there_of p f e ≡ there_of p g e) × (back_of p f e ≡ back_of p g e)) → f q ≡ g q
places-same p f g q = by_cases (is_two_way p.orient)
  where
    even_or_odd : (n : ℕ) → (n ≡ 2 * (n / 2)) ⊎ (n ≡ 2 * (n / 2) + 1)
    even_or_odd n = grind arith

    by_cases : (b : Bool) → q < (if b then 2 * length p.links else length p.links)
        → ((e : ℕ) → e < length p.links → (f (if b then 2 * e else e) ≡ g (if b then 2 * e else e)) × ((if b then f (2 * e + 1) else 0) ≡ (if b then g (2 * e + 1) else 0))) → f q ≡ g q
    by_cases true within same = elim (even_or_odd q) [
      | inl even ↦ ap f even ∙ (same (q / 2) (omega (arith, within))).0 ∙ sym (ap g even)
      | inr odd ↦ ap f odd ∙ (same (q / 2) (omega (arith, within))).1 ∙ sym (ap g odd)
    ]
    by_cases false within same = (same q within).0

-- the loads in the range of a link's place are at most the total load
there-low : (p : Parts) (e load : ℕ) (range : LoadRange) → IsRange (top_load p (link_at p e)) range → IsIn range load → load ≤ total_load p
there-low p e load range is inside = omega (arith, inside.few, is.carried, top-le p (link_at p e))

back-low : (p : Parts) (e load : ℕ) (range : LoadRange) → IsRange (top_back p e) range → IsIn range load → load ≤ total_load p
back-low p e load range is inside = by_cases (is_two_way p.orient) is
  where
    by_cases : (b : Bool) → IsRange (if b then top_load p (link_at p e) else 0) range → load ≤ total_load p
    by_cases true there = there-low p e load range there inside
    by_cases false none = omega (arith, inside.few, none.carried)

-- no load that gives a value is above the total load
pub values-low : (p : Parts) (cuts : List Cut) (ranges : List LoadRange) (numbers : List ℕ) (loads : ℕ → ℕ) → AreRanges p ranges → AreValueLoads p cuts ranges numbers loads → (q : ℕ) → q < places p → loads q ≤ total_load p
values-low p cuts ranges numbers loads are h q within =
    let e : ℕ = link_of_place p q in
    let inside = link_of_place-within p q within in
    let give = (h e inside).are_first.give in
    let both = ranges_of-link p ranges e inside are in
    omega (arith, place-le-larger p loads q, there-low p e _ _ both.there give.in_range, back-low p e _ _ both.other give.back_in_range)
