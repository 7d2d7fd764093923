-- The sum of the values of the links at prices and rates is small, and has one value more with each link.
use Rattle.std.proofs.Common.{◌≡◌, ℕ, ◌+◌, ◌*◌, ◌<◌, List, [], ◌∷◌, ◌++◌, slice_index, true, false, refl, arith, add-one}
use Rattle.std.specs.Prelude.{ℤ, pos, ◌+ℤ◌, ◌-ℤ◌, ◌≤ℤ◌}
use Rattle.std.proofs.lemmas.Int.{ints}
use Rattle.plan_base.specs.declared.parts.Parts.{Parts}
use Rattle.plan_base.specs.declared.limits.TheConstants.{MAX_PRICED_LOAD}
use Rattle.link_steps.specs.declared.range.LoadRange.{LoadRange}
use Rattle.link_steps.specs.declared.rated.Rated.{Rated}
use Rattle.link_steps.specs.Tallies.{ArePlaceRates}
use Rattle.link_steps.proofs.ValueTotals.{with_value, values-next, up, down}
use Rattle.proof_tree.specs.declared.cuts.Cut.{Cut}
use Rattle.proof_tree.specs.Cuts.{place_crosses, batch_of, cut_at}
use Rattle.proof_tree.specs.RatedBounds.{rated_before, IsRatedValue, IsRatedTotal}

-- what holds at a price and a list holds where they are read
pub place_rates-read : (t p : Parts) (e price same_price : ℕ) (list same_list : List Rated) → t ≡ p → price ≡ same_price → list ≡ same_list → ArePlaceRates p e same_price same_list → ArePlaceRates t e price list
place_rates-read t p e price same_price list same_list one two three h = rw (one, two, three) h

-- the cuts before the next one that the place crosses, where it crosses this one
pub rated-crossed : (p inst : Parts) (cuts : List Cut) (cut : Cut) (rates : List ℕ) (q n : ℕ) (rated : Rated) → inst ≡ p → cut ≡ cut_at cuts n → place_crosses inst cut.nodes q ≡ true
    → rated ≡ record { batch = batch_of inst cut q; rate = slice_index rates n } → rated_before p cuts rates q n ++ (rated ∷ []) ≡ rated_before p cuts rates q (n + 1)
rated-crossed p inst cuts cut rates q n rated same here crosses is =
    let met = rw (same, here) at crosses in
    let this = rw (same, here) at is in
    rw (add-one, met, this) refl

-- the same where it does not cross this one
pub rated-passed : (p inst : Parts) (cuts : List Cut) (cut : Cut) (rates : List ℕ) (q n : ℕ) → inst ≡ p → cut ≡ cut_at cuts n → place_crosses inst cut.nodes q ≡ false
    → rated_before p cuts rates q n ≡ rated_before p cuts rates q (n + 1)
rated-passed p inst cuts cut rates q n same here crosses =
    let passed = rw (same, here) at crosses in
    rw (add-one, passed) refl

-- at prices and rates, the values of no links have the sum 0
pub rated_total-none : (p : Parts) (cuts : List Cut) (ranges : List LoadRange) (prices rates : List ℕ) → IsRatedTotal p cuts ranges prices rates 0 (pos 0)
rated_total-none p cuts ranges prices rates = record {
  values = λ e. pos 0;
  are_values = λ e below. absurd (let none : e < 0 = below in omega arith);
  is_sum = refl;
  not_above = omega (arith, ints);
  bounded = omega (arith, ints);
}

-- the value of one link more
pub rated_total-next : (p : Parts) (cuts : List Cut) (ranges : List LoadRange) (prices rates : List ℕ) (place : ℕ) (total value : ℤ) → IsRatedTotal p cuts ranges prices rates place total → IsRatedValue p cuts ranges prices rates place value
    → value ≤ℤ pos MAX_PRICED_LOAD → (pos 0 -ℤ pos (2 * MAX_PRICED_LOAD)) ≤ℤ value → IsRatedTotal p cuts ranges prices rates (place + 1) (total +ℤ value)
rated_total-next p cuts ranges prices rates place total value before is not_above bounded =
    let next = values-next (λ e x. IsRatedValue p cuts ranges prices rates e x) before.values place total value before.are_values before.is_sum is in
    rw add-one (record {
      values = with_value before.values place value;
      are_values = next.0;
      is_sum = next.1;
      not_above = up place total value before.not_above not_above;
      bounded = down place total value before.bounded bounded;
    })
