-- Three totals give a bound.
use Rattle.std.proofs.Common.{◌≡◌, ℕ, ◌+◌, ◌*◌, ◌≤◌, List, length, sym, ap, subst, ◌∙◌, arith}
use Rattle.std.specs.Prelude.{ℤ, pos, ◌+ℤ◌, ◌-ℤ◌, ◌≤ℤ◌}
use Rattle.std.proofs.lemmas.Int.{ints, to_z-of_z}
use mir.Syntax.{w128}
use mir.Val.{SFits, to_z, of_z}
use Rattle.plan_base.specs.declared.parts.Parts.{Parts}
use Rattle.plan_base.specs.Sums.{int_sum_below}
use Rattle.plan_base.specs.declared.limits.TheConstants.{MAX_LINKS, MAX_PRICED_LOAD}
use Rattle.link_steps.specs.declared.range.LoadRange.{LoadRange}
use Rattle.proof_tree.specs.declared.cuts.Cut.{Cut as LoadCut}
use Rattle.proof_tree.specs.Regions.{Region}
use Rattle.proof_tree.specs.Bounds.{price_total, IsThousandthUp}
use Rattle.proof_tree.specs.RatedBounds.{cut_total, IsRatedTotal}
use Rattle.proof_tree.specs.RatedEvidence.{rates_in, IsBoundAt}
use Rattle.cert_verifier.specs.Totals.{IsPriceTotal}

fewer_below : (count : ℕ) (total : ℤ) → count ≤ MAX_LINKS → (pos 0 -ℤ pos (count * (2 * MAX_PRICED_LOAD))) ≤ℤ total → (pos 0 -ℤ pos (MAX_LINKS * (2 * MAX_PRICED_LOAD))) ≤ℤ total
fewer_below count total few low = omega (arith, ints)

fewer_above : (count : ℕ) (total : ℤ) → count ≤ MAX_LINKS → total ≤ℤ pos (count * MAX_PRICED_LOAD) → total ≤ℤ pos (MAX_LINKS * MAX_PRICED_LOAD)
fewer_above count total few high = omega (arith, ints)

-- the sum of the values of all links, as 128 bits hold it, is not far below 0
pub sum-bounded : (p : Parts) (cuts : List LoadCut) (ranges : List LoadRange) (prices rates : List ℕ) (total : ℤ) → SFits w128 total → length p.links ≤ MAX_LINKS → IsRatedTotal p cuts ranges prices rates (length p.links) total
    → (pos 0 -ℤ pos (MAX_LINKS * (2 * MAX_PRICED_LOAD))) ≤ℤ to_z w128 (of_z w128 total)
sum-bounded p cuts ranges prices rates total fits few is = rw (to_z-of_z w128 total fits) (fewer_below (length p.links) total few is.bounded)

-- and not far above it
pub sum-not_above : (p : Parts) (cuts : List LoadCut) (ranges : List LoadRange) (prices rates : List ℕ) (total : ℤ) → SFits w128 total → length p.links ≤ MAX_LINKS → IsRatedTotal p cuts ranges prices rates (length p.links) total
    → to_z w128 (of_z w128 total) ≤ℤ pos (MAX_LINKS * MAX_PRICED_LOAD)
sum-not_above p cuts ranges prices rates total fits few is = rw (to_z-of_z w128 total fits) (fewer_above (length p.links) total few is.not_above)

-- a thousandth of the three totals, rounded up, is the bound
pub totals_bound : (p : Parts) (cuts : List LoadCut) (g : Region) (numbers : List ℕ) (priced counted : ℕ) (values bound : ℤ) → IsPriceTotal p g.forbidden numbers priced → counted ≡ cut_total p cuts (rates_in p numbers)
    → IsRatedTotal p cuts g.ranges numbers (rates_in p numbers) (length p.links) values → IsThousandthUp (pos (priced + counted) +ℤ values) bound → IsBoundAt p cuts g numbers bound
totals_bound p cuts g numbers priced counted values bound is_priced counted_is has up_to =
    record {
      least_prices = is_priced.least_prices;
      values = has.values;
      are_least = is_priced.are_least;
      are_values = has.are_values;
      rounded = subst (λ (v : ℤ). IsThousandthUp v bound) same up_to;
    }
  where
    same : (pos (priced + counted) +ℤ values) ≡ (pos (price_total p is_priced.least_prices + cut_total p cuts (rates_in p numbers)) +ℤ int_sum_below has.values (length p.links))
    same = ap (λ n. pos (n + counted) +ℤ values) is_priced.is_total ∙ ap (λ n. pos (price_total p is_priced.least_prices + n) +ℤ values) counted_is
        ∙ ap (λ v. pos (price_total p is_priced.least_prices + cut_total p cuts (rates_in p numbers)) +ℤ v) (sym has.is_sum)
