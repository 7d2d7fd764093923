-- The sum of the values of the links is small, and has one value more with each link.
use Rattle.std.proofs.Common.{◌≡◌, ◌≢◌, ℕ, zero, suc, ◌+◌, ◌*◌, ◌<◌, ◌≤◌, ◌⊎◌, inl, inr, ◌==◌, if◌then◌else◌, List, slice_index, refl, ap, ◌∙◌, arith, add-one}
use Rattle.std.specs.Prelude.{ℤ, pos, negsuc, ◌+ℤ◌, ◌-ℤ◌, ◌≤ℤ◌}
use mir.Syntax.{w128}
use mir.Val.{SFits}
use Rattle.std.proofs.lemmas.Int.{ints}
use Rattle.std.proofs.lemmas.Bool.{eq-eqb, ne_eqb}
use Rattle.plan_base.specs.declared.parts.Parts.{Parts}
use Rattle.plan_base.specs.declared.limits.TheConstants.{MAX_LINKS, MAX_PRICED_LOAD}
use Rattle.plan_base.specs.Sums.{int_sum_below}
use Rattle.plan_base.specs.Places.{there_of, back_of}
use Rattle.link_steps.specs.declared.range.LoadRange.{LoadRange}
use Rattle.link_steps.specs.Values.{ranges_of_link, IsLinkValue, IsValueTotal}

-- the values with one at a place
abbrev pub with_value : (ℕ → ℤ) → ℕ → ℤ → ℕ → ℤ
with_value values place value e = if e == place then value else values e

with_value-here : (values : ℕ → ℤ) (place : ℕ) (value : ℤ) → with_value values place value place ≡ value
with_value-here values place value = rw (eq-eqb place place refl) refl

with_value-other : (values : ℕ → ℤ) (place : ℕ) (value : ℤ) (e : ℕ) → e ≢ place → with_value values place value e ≡ values e
with_value-other values place value e other = rw (ne_eqb e place other) refl

int_sum_below-same : (f g : ℕ → ℤ) (n : ℕ) → ((i : ℕ) → i < n → f i ≡ g i) → int_sum_below f n ≡ int_sum_below g n
int_sum_below-same f g zero h = refl
int_sum_below-same f g (suc n) h = ap (λ x. x +ℤ f n) (int_sum_below-same f g n (λ i below. h i (omega arith))) ∙ ap (λ x. int_sum_below g n +ℤ x) (h n (omega arith))

either_way : (x y : ℕ) → (x ≤ y) ⊎ (y < x)
either_way x y = grind arith

-- with the value of one link more, the values of the links before have this sum
pub values-next : (IsValue : ℕ → ℤ → Type 0) (values : ℕ → ℤ) (place : ℕ) (total value : ℤ) → ((e : ℕ) → e < place → IsValue e (values e)) → int_sum_below values place ≡ total → IsValue place value
    → ((e : ℕ) → e < suc place → IsValue e (with_value values place value e)) × (int_sum_below (with_value values place value) (suc place) ≡ total +ℤ value)
values-next IsValue values place total value are_values is_sum is = (
  (λ e below. elim (either_way place e) [
    | inl last ↦ (let here : e ≡ place = omega arith in rw (here, with_value-here values place value) is)
    | inr before ↦ rw (with_value-other values place value e (omega arith)) (are_values e before)
  ]),
  ap (λ x. x +ℤ with_value values place value place) (int_sum_below-same (with_value values place value) values place (λ i below. with_value-other values place value i (omega arith)) ∙ is_sum)
      ∙ ap (λ x. total +ℤ x) (with_value-here values place value),
)

-- a sum far below 0 for no more than its links is so with one value more
pub down : (count : ℕ) (total value : ℤ) → (pos 0 -ℤ pos (count * (2 * MAX_PRICED_LOAD))) ≤ℤ total → (pos 0 -ℤ pos (2 * MAX_PRICED_LOAD)) ≤ℤ value → (pos 0 -ℤ pos (suc count * (2 * MAX_PRICED_LOAD))) ≤ℤ (total +ℤ value)
down count total value before here = omega (arith, ints)

-- a sum far above 0 for no more than its links is so with one value more
pub up : (count : ℕ) (total value : ℤ) → total ≤ℤ pos (count * MAX_PRICED_LOAD) → value ≤ℤ pos MAX_PRICED_LOAD → (total +ℤ value) ≤ℤ pos (suc count * MAX_PRICED_LOAD)
up count total value before here = omega (arith, ints)

-- the sum with the value of the next link is the value total of one link more
pub total_next : (p : Parts) (ranges : List LoadRange) (prices : List ℕ) (place : ℕ) (total value : ℤ) → IsValueTotal p ranges prices place total
    → IsLinkValue p place (ranges_of_link p ranges place) (there_of p (slice_index prices) place) (back_of p (slice_index prices) place) value
    → value ≤ℤ pos MAX_PRICED_LOAD → (pos 0 -ℤ pos (2 * MAX_PRICED_LOAD)) ≤ℤ value → IsValueTotal p ranges prices (place + 1) (total +ℤ value)
total_next p ranges prices place total value before is not_above bounded =
    let next = values-next (λ e x. IsLinkValue p e (ranges_of_link p ranges e) (there_of p (slice_index prices) e) (back_of p (slice_index prices) e) x) before.has.values place total value before.has.are_values before.has.is_sum is in
    rw add-one (record {
      has = record { values = with_value before.has.values place value; are_values = next.0; is_sum = next.1 };
      not_above = up place total value before.not_above not_above;
      bounded = down place total value before.bounded bounded;
    })

-- the value total of no links is 0
pub total_none : (p : Parts) (ranges : List LoadRange) (prices : List ℕ) → IsValueTotal p ranges prices 0 (pos 0)
total_none p ranges prices =
    record {
      has = record { values = λ e. pos 0; are_values = λ e below. absurd (omega arith); is_sum = refl };
      not_above = omega (arith, ints);
      bounded = omega (arith, ints);
    }

-- a whole number neither far above 0 nor far below fits
near-fits : (z : ℤ) → z ≤ℤ pos (MAX_LINKS * MAX_PRICED_LOAD) → (pos 0 -ℤ pos (MAX_LINKS * (2 * MAX_PRICED_LOAD))) ≤ℤ z → SFits w128 z
near-fits (pos n) high low = record { sfits = omega (arith, ints) }
near-fits (negsuc n) high low = record { sfits = omega (arith, ints) }

higher : (place : ℕ) (total value : ℤ) → place < MAX_LINKS → total ≤ℤ pos (place * MAX_PRICED_LOAD) → value ≤ℤ pos MAX_PRICED_LOAD → (total +ℤ value) ≤ℤ pos (MAX_LINKS * MAX_PRICED_LOAD)
higher place total value few before here = omega (arith, ints)

lower : (place : ℕ) (total value : ℤ) → place < MAX_LINKS → (pos 0 -ℤ pos (place * (2 * MAX_PRICED_LOAD))) ≤ℤ total → (pos 0 -ℤ pos (2 * MAX_PRICED_LOAD)) ≤ℤ value → (pos 0 -ℤ pos (MAX_LINKS * (2 * MAX_PRICED_LOAD))) ≤ℤ (total +ℤ value)
lower place total value few before here = omega (arith, ints)

-- so does the sum with one link more
pub next-fits : (place : ℕ) (total value : ℤ) → place < MAX_LINKS → total ≤ℤ pos (place * MAX_PRICED_LOAD) → (pos 0 -ℤ pos (place * (2 * MAX_PRICED_LOAD))) ≤ℤ total → value ≤ℤ pos MAX_PRICED_LOAD
    → (pos 0 -ℤ pos (2 * MAX_PRICED_LOAD)) ≤ℤ value → SFits w128 (total +ℤ value)
next-fits place total value few high low here_high here_low = near-fits (total +ℤ value) (higher place total value few high here_high) (lower place total value few low here_low)
