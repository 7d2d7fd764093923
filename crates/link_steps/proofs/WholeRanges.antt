-- Ranges of all loads, and the ranges of a link's places.
use Rattle.std.proofs.Common.{◌≡◌, ℕ, zero, suc, ◌+◌, ◌*◌, ◌/◌, ◌<◌, inl, inr, Bool, true, false, List, [], ◌∷◌, length, slice_set, if◌then◌else◌, refl, sym, subst, ap, ◌∙◌, arith, length-append}
use Rattle.std.proofs.Math.Seq.{get_or-append_seam}
use Rattle.std.proofs.lemmas.List.{get_or_append_left, get_or-set_other, length-set, ext_get_or}
use Rattle.std.proofs.lemmas.Grind.{get_or-set_at}
use Rattle.plan_base.specs.declared.parts.Parts.{Parts}
use Rattle.plan_base.specs.Arcs.{link_at}
use Rattle.plan_base.specs.Facts.{top_load}
use Rattle.plan_base.specs.Places.{is_two_way, places}
use Rattle.link_steps.specs.declared.range.LoadRange.{LoadRange}
use Rattle.link_steps.specs.Ranges.{no_range, range_at, whole_range, whole_before, whole_ranges, IsRange, AreRanges}
use Rattle.link_steps.specs.Values.{ranges_of_link, AreLinkRanges}
use Rattle.link_steps.proofs.Order.{before_or_last}

length-whole : (p : Parts) (n : ℕ) → length (whole_before p n) ≡ n
length-whole p zero = refl
length-whole p (suc n) = omega (arith, length-append (whole_before p n) (whole_range p n ∷ []), length-whole p n)

range_at-whole : (p : Parts) (n q : ℕ) → q < n → range_at (whole_before p n) q ≡ whole_range p q
range_at-whole p zero q below = absurd (omega arith)
range_at-whole p (suc n) q below =
    elim (before_or_last q n (omega arith)) [
      | inl old ↦ get_or_append_left (whole_before p n) (whole_range p n ∷ []) no_range q (omega (arith, length-whole p n)) ∙ range_at-whole p n q old
      | inr new ↦
          ap (λ (i : ℕ). range_at (whole_before p (suc n)) i) (let is : q ≡ length (whole_before p n) = omega (arith, length-whole p n) in is)
          ∙ get_or-append_seam (whole_before p n) (whole_range p n) [] no_range ∙ ap (whole_range p) (let is : n ≡ q = omega arith in is)
    ]

-- each place's whole range has loads, and none above the top load
pub AreRanges-whole : (p : Parts) → AreRanges p (whole_ranges p)
AreRanges-whole p = record {
  count = length-whole p (places p);
  each = λ q below. rw (range_at-whole p (places p) q below) (record { some = omega arith; carried = omega arith });
}

-- as many ranges, each of them whole
pub whole-all : (p : Parts) (ranges : List LoadRange) → length ranges ≡ places p → ((q : ℕ) → q < places p → range_at ranges q ≡ whole_range p q) → ranges ≡ whole_ranges p
whole-all p ranges count each = ext_get_or no_range ranges (whole_ranges p) (omega (arith, count, length-whole p (places p))) (λ q below. each q (omega (arith, count)) ∙ sym (range_at-whole p (places p) q (omega (arith, count))))

-- the ranges of the places before a count are whole
pub record AreWholeTo (p : Parts) (n : ℕ) (ranges : List LoadRange) : Type 0 where
  pub count : length ranges ≡ places p
  pub whole : (q : ℕ) → q < n → range_at ranges q ≡ whole_range p q

-- one more is
pub whole-put : (p : Parts) (n : ℕ) (ranges : List LoadRange) (range : LoadRange) → n < places p → range ≡ whole_range p n → AreWholeTo p n ranges → AreWholeTo p (n + 1) (slice_set ranges n range)
whole-put p n ranges range within is before = record {
  count = length-set ranges n range ∙ before.count;
  whole = λ q below.
      elim (before_or_last q n below) [
        | inl old ↦ get_or-set_other ranges n q range no_range (λ same. (let is : q ≡ n = same in omega (arith, old, is))) ∙ before.whole q old
        | inr new ↦ get_or-set_at ranges n q range no_range new (omega (arith, within, before.count)) ∙ is ∙ ap (whole_range p) (sym new)
      ];
}

-- the ranges of a link's places are those of its place or places
pub ranges_of-link : (p : Parts) (ranges : List LoadRange) (e : ℕ) → e < length p.links → AreRanges p ranges → AreLinkRanges p e (ranges_of_link p ranges e)
ranges_of-link p ranges e within are =
    let both = by_cases (is_two_way p.orient) are.each in
    record { there = both.0; other = both.1 }
  where
    at-link : (q f : ℕ) → f ≡ e → IsRange (top_load p (link_at p f)) (range_at ranges q) → IsRange (top_load p (link_at p e)) (range_at ranges q)
    at-link q f same is = subst (λ (n : ℕ). IsRange (top_load p (link_at p n)) (range_at ranges q)) same is

    by_cases : (b : Bool) → ((q : ℕ) → q < (if b then 2 * length p.links else length p.links) → IsRange (top_load p (link_at p (if b then q / 2 else q))) (range_at ranges q))
        → IsRange (top_load p (link_at p e)) (range_at ranges (if b then 2 * e else e)) × IsRange (if b then top_load p (link_at p e) else 0) (if b then range_at ranges (2 * e + 1) else no_range)
    by_cases true each = (
      at-link (2 * e) (2 * e / 2) (omega arith) (each (2 * e) (omega (arith, within))),
      at-link (2 * e + 1) ((2 * e + 1) / 2) (omega arith) (each (2 * e + 1) (omega (arith, within))),
    )
    by_cases false each = (each e within, record { some = omega arith; carried = omega arith })
