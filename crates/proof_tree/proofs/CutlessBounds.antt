-- Without cuts a bound with rates is a bound at the prices alone.
use Rattle.std.proofs.Common.{◌≡◌, ℕ, ◌+◌, ◌*◌, Bool, true, false, List, [], length, slice_index, if◌then◌else◌, refl, sym, ap, subst, ◌∙◌, arith}
use Rattle.std.specs.Prelude.{◌↔◌, ℤ, pos, ◌+ℤ◌, ◌-ℤ◌, ◌≤ℤ◌}
use Rattle.plan_base.specs.declared.parts.Parts.{Parts}
use Rattle.plan_base.specs.Sums.{int_sum_below}
use Rattle.plan_base.specs.Places.{is_two_way, there_of, back_of}
use Rattle.link_steps.specs.declared.range.LoadRange.{LoadRange}
use Rattle.link_steps.specs.declared.range.LinkRanges.{LinkRanges}
use Rattle.link_steps.specs.declared.rated.Rated.{Rated}
use Rattle.link_steps.specs.Values.{ranges_of_link, IsLinkValue, IsValueTotal}
use Rattle.link_steps.specs.WorthValues.{IsWorthValue}
use Rattle.proof_tree.specs.Regions.{Region}
use Rattle.proof_tree.specs.Bounds.{IsThousandthUp, price_total, IsBound}
use Rattle.proof_tree.specs.RatedBounds.{rated_on, rated_back, IsRatedValue, IsRatedTotal, IsRatedBound}

worth-none : (price back_price load back : ℕ) → (price * load + 0) + (back_price * back + 0) ≡ price * load + back_price * back
worth-none price back_price load back = omega arith

-- a value at prices is one at the same prices without cuts
value-without : (p : Parts) (e : ℕ) (ranges : LinkRanges) (price back_price : ℕ) (value : ℤ) → IsLinkValue p e ranges price back_price value → IsWorthValue p e ranges price [] back_price [] value
value-without p e ranges price back_price value is = record {
  load = is.load;
  back = is.back;
  give = record {
    in_range = is.give.in_range;
    back_in_range = is.give.back_in_range;
    cost = is.give.cost;
    is_cost = is.give.is_cost;
    attained = ap (λ (n : ℕ). pos (1000 * is.give.cost) -ℤ pos n) (worth-none price back_price is.load is.back) ∙ is.give.attained;
  };
  least = λ other other_back c in_range back_in_range is_cost.
      subst (λ (n : ℕ). value ≤ℤ (pos (1000 * c) -ℤ pos n)) (sym (worth-none price back_price other other_back))
      (is.least other other_back c in_range back_in_range is_cost);
}

value-plain : (p : Parts) (e : ℕ) (ranges : LinkRanges) (price back_price : ℕ) (value : ℤ) → IsWorthValue p e ranges price [] back_price [] value → IsLinkValue p e ranges price back_price value
value-plain p e ranges price back_price value is = record {
  load = is.load;
  back = is.back;
  give = record {
    in_range = is.give.in_range;
    back_in_range = is.give.back_in_range;
    cost = is.give.cost;
    is_cost = is.give.is_cost;
    attained = ap (λ (n : ℕ). pos (1000 * is.give.cost) -ℤ pos n) (sym (worth-none price back_price is.load is.back)) ∙ is.give.attained;
  };
  least = λ other other_back c in_range back_in_range is_cost.
      subst (λ (n : ℕ). value ≤ℤ (pos (1000 * c) -ℤ pos n)) (worth-none price back_price other other_back)
      (is.least other other_back c in_range back_in_range is_cost);
}

-- without cuts no place crosses any
none-back : (p : Parts) (rates : List ℕ) (e : ℕ) → rated_back p [] rates e ≡ []
none-back p rates e = by_cases (is_two_way p.orient)
  where
    by_cases : (b : Bool) → (if b then rated_on p [] rates (2 * e + 1) else []) ≡ []
    by_cases true = refl
    by_cases false = refl

-- so has a link at prices alone without cuts
rated-without : (p : Parts) (ranges : List LoadRange) (prices rates : List ℕ) (e : ℕ) (value : ℤ)
    → IsLinkValue p e (ranges_of_link p ranges e) (there_of p (slice_index prices) e) (back_of p (slice_index prices) e) value → IsRatedValue p [] ranges prices rates e value
rated-without p ranges prices rates e value is =
    subst (λ (list : List Rated). IsWorthValue p e (ranges_of_link p ranges e) (there_of p (slice_index prices) e) [] (back_of p (slice_index prices) e) list value) (sym (none-back p rates e))
    (value-without p e (ranges_of_link p ranges e) (there_of p (slice_index prices) e) (back_of p (slice_index prices) e) value is)

-- and so has the sum of link values
pub total-without_cuts : (p : Parts) (ranges : List LoadRange) (prices rates : List ℕ) (count : ℕ) (total : ℤ) → IsValueTotal p ranges prices count total → IsRatedTotal p [] ranges prices rates count total
total-without_cuts p ranges prices rates count total is = record {
  values = is.has.values;
  are_values = λ e below. rated-without p ranges prices rates e (is.has.values e) (is.has.are_values e below);
  is_sum = is.has.is_sum;
  not_above = is.not_above;
  bounded = is.bounded;
}

plus-none : (n : ℕ) → n ≡ n + 0
plus-none n = omega arith

-- without cuts a bound at rates is one at prices alone
pub bound-without_cuts : (p : Parts) (g : Region) (prices rates : List ℕ) (bound : ℤ) → IsBound p g prices bound ↔ IsRatedBound p [] g prices rates bound
bound-without_cuts p g prices rates bound = (
  λ h. record {
    least_prices = h.least_prices;
    values = h.values;
    are_least = h.are_least;
    are_values = λ e below. rated-without p g.ranges prices rates e (h.values e) (h.are_values e below);
    rounded = subst (λ (n : ℕ). IsThousandthUp (pos n +ℤ int_sum_below h.values (length p.links)) bound) (plus-none (price_total p h.least_prices)) h.rounded;
  },
  λ h. record {
    least_prices = h.least_prices;
    values = h.values;
    are_least = h.are_least;
    are_values = λ e below.
        value-plain p e (ranges_of_link p g.ranges e) (there_of p (slice_index prices) e) (back_of p (slice_index prices) e) (h.values e)
        (subst (λ (list : List Rated). IsWorthValue p e (ranges_of_link p g.ranges e) (there_of p (slice_index prices) e) [] (back_of p (slice_index prices) e) list (h.values e)) (none-back p rates e) (h.are_values e below));
    rounded = subst (λ (n : ℕ). IsThousandthUp (pos n +ℤ int_sum_below h.values (length p.links)) bound) (sym (plus-none (price_total p h.least_prices))) h.rounded;
  },
)
