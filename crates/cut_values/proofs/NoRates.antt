-- With rates of 0, cuts count for nothing.
use Rattle.std.proofs.Common.{◌≡◌, ℕ, zero, suc, ◌+◌, ◌*◌, ◌<◌, ◌≤◌, inl, inr, Bool, true, false, List, [], length, slice_index, if◌then◌else◌, refl, sym, ap, subst, ◌∙◌, arith}
use Rattle.std.specs.Prelude.{◌↔◌, ℤ, pos, ◌+ℤ◌}
use Rattle.std.specs.List.{sum_by}
use Rattle.std.proofs.lemmas.List.{get_or-drop, get_or_past}
use Rattle.std.proofs.lemmas.List.Elements.{All-drop}
use Rattle.std.proofs.lemmas.List.Sums.{sum_by_push}
use Rattle.plan_base.specs.declared.parts.Parts.{Parts}
use Rattle.plan_base.specs.Facts.{price_limit}
use Rattle.plan_base.specs.Sums.{sum_below, int_sum_below}
use Rattle.plan_base.specs.Places.{is_two_way, places, there_of, back_of}
use Rattle.link_steps.specs.declared.rated.Rated.{Rated}
use Rattle.link_steps.specs.Tallies.{part, worth}
use Rattle.link_steps.specs.Values.{ranges_of_link}
use Rattle.link_steps.proofs.NetValues.{value-price, value-net}
use Rattle.link_steps.proofs.Order.{either_way}
use Rattle.arc_restrict.specs.Prices.{AreWithinLimit}
use Rattle.proof_tree.specs.declared.cuts.Cut.{Cut}
use Rattle.proof_tree.specs.Cuts.{place_crosses, batch_of, least_count, cut_at}
use Rattle.proof_tree.specs.Regions.{Region}
use Rattle.proof_tree.specs.Bounds.{IsThousandthUp, price_total, IsBound}
use Rattle.proof_tree.specs.RatedBounds.{with_rated, rated_before, rated_on, rated_there, rated_back, crossing_rates, cut_total}
use Rattle.proof_tree.specs.RatedEvidence.{rates_in, AreLawfulNumbers, IsBoundAt}
use Rattle.cut_values.specs.Numbers.{HaveNoRates}

-- a rate stands behind the prices
pub rate-read : (p : Parts) (numbers : List ℕ) (i : ℕ) → slice_index (rates_in p numbers) i ≡ slice_index numbers (places p + i)
rate-read p numbers i = get_or-drop (places p) numbers i 0

-- what is nothing at a rate of 0 has no sum
none-sum : (f : Rated → ℕ) → ((r : Rated) → r.rate ≡ 0 → f r ≡ 0) → (p : Parts) (cuts : List Cut) (rates : List ℕ) (q n : ℕ) → ((i : ℕ) → i < n → slice_index rates i ≡ 0) → sum_by f (rated_before p cuts rates q n) ≡ 0
none-sum f none p cuts rates q zero zeros = refl
none-sum f none p cuts rates q (suc n) zeros =
    more (place_crosses p (cut_at cuts n).nodes q) (rated_before p cuts rates q n) (record { batch = batch_of p (cut_at cuts n) q; rate = slice_index rates n })
    (zeros n (omega arith)) (none-sum f none p cuts rates q n (λ i below. zeros i (omega arith)))
  where
    more : (b : Bool) (list : List Rated) (here : Rated) → here.rate ≡ 0 → sum_by f list ≡ 0 → sum_by f (with_rated b list here) ≡ 0
    more true list here is before = omega (arith, sum_by_push f list here, none here is, before)
    more false list here is before = before

module _ (p : Parts) (cuts : List Cut) (numbers : List ℕ) (zeros : HaveNoRates p cuts numbers) where
  rates-zero : (i : ℕ) → i < length cuts → slice_index (rates_in p numbers) i ≡ 0
  rates-zero i below = rate-read p numbers i ∙ zeros i below

  -- no rate crosses a place
  pub crossing-zero : (q : ℕ) → crossing_rates p cuts (rates_in p numbers) q ≡ 0
  crossing-zero q = none-sum (λ (r : Rated). r.rate) (λ r none. none) p cuts (rates_in p numbers) q (length cuts) rates-zero

  rated-zero : (q x : ℕ) → sum_by (λ (r : Rated). r.rate * part r.batch x) (rated_on p cuts (rates_in p numbers) q) ≡ 0
  rated-zero q x =
      none-sum (λ (r : Rated). r.rate * part r.batch x) (λ r none. (let times : r.rate * part r.batch x ≡ 0 * part r.batch x = ap (λ (n : ℕ). n * part r.batch x) none in omega (arith, times)))
      p cuts (rates_in p numbers) q (length cuts) rates-zero

  worth-there : (price e x : ℕ) → worth price (rated_there p cuts (rates_in p numbers) e) x ≡ price * x
  worth-there price e x = omega (arith, rated-zero (if is_two_way p.orient then 2 * e else e) x)

  worth-back : (price e x : ℕ) → worth price (rated_back p cuts (rates_in p numbers) e) x ≡ price * x
  worth-back price e x = by_cases (is_two_way p.orient)
    where
      by_cases : (b : Bool) → worth price (if b then rated_on p cuts (rates_in p numbers) (2 * e + 1) else []) x ≡ price * x
      by_cases true = omega (arith, rated-zero (2 * e + 1) x)
      by_cases false = omega arith

  total-zero : cut_total p cuts (rates_in p numbers) ≡ 0
  total-zero = below (length cuts) (omega arith)
    where
      below : (n : ℕ) → n ≤ length cuts → sum_below (λ i. slice_index (rates_in p numbers) i * least_count p (cut_at cuts i)) n ≡ 0
      below zero within = refl
      below (suc n) within =
          let times : slice_index (rates_in p numbers) n * least_count p (cut_at cuts n) ≡ 0 * least_count p (cut_at cuts n) = ap (λ (m : ℕ). m * least_count p (cut_at cuts n)) (rates-zero n (omega arith)) in
          omega (arith, times, below n (omega arith))

  -- numbers whose rates are 0 are lawful where none is above the limit
  pub lawful-within : AreWithinLimit p numbers → AreLawfulNumbers p cuts numbers
  lawful-within within = record {
    prices_within = within;
    rates_within = All-drop (λ (n : ℕ). n ≤ price_limit p) (places p) numbers within;
    each = λ q below. record {
      within_limit = omega (arith, crossing-zero q, read q);
      cover_routing = λ some. absurd (omega (arith, crossing-zero q, some));
    };
  }
    where
      read : (q : ℕ) → slice_index numbers q ≤ price_limit p
      read q = elim (either_way (length numbers) q) [
        | inl past ↦ (let none : slice_index numbers q ≡ 0 = get_or_past numbers q 0 past in omega (arith, none))
        | inr inside ↦ within q 0 inside
      ]

  plus-zero : (n : ℕ) → n + cut_total p cuts (rates_in p numbers) ≡ n
  plus-zero n = omega (arith, total-zero)

  -- the bound is that of the prices alone
  pub bound-alone : (g : Region) (bound : ℤ) → IsBoundAt p cuts g numbers bound → IsBound p g numbers bound
  bound-alone g bound h = record {
    least_prices = h.least_prices;
    values = h.values;
    are_least = h.are_least;
    are_values = λ e below.
        value-price p e (ranges_of_link p g.ranges e) (there_of p (slice_index numbers) e) (back_of p (slice_index numbers) e) (worth (there_of p (slice_index numbers) e) (rated_there p cuts (rates_in p numbers) e))
        (worth (back_of p (slice_index numbers) e) (rated_back p cuts (rates_in p numbers) e)) (worth-there (there_of p (slice_index numbers) e) e) (worth-back (back_of p (slice_index numbers) e) e) (h.values e) (h.are_values e below);
    rounded = subst (λ (n : ℕ). IsThousandthUp (pos n +ℤ int_sum_below h.values (length p.links)) bound) (plus-zero (price_total p h.least_prices)) h.rounded;
  }

  -- and the bound of the prices alone is the bound
  pub bound-rated : (g : Region) (bound : ℤ) → IsBound p g numbers bound → IsBoundAt p cuts g numbers bound
  bound-rated g bound h = record {
    least_prices = h.least_prices;
    values = h.values;
    are_least = h.are_least;
    are_values = λ e below.
        value-net p e (ranges_of_link p g.ranges e) (there_of p (slice_index numbers) e) (back_of p (slice_index numbers) e) (worth (there_of p (slice_index numbers) e) (rated_there p cuts (rates_in p numbers) e))
        (worth (back_of p (slice_index numbers) e) (rated_back p cuts (rates_in p numbers) e)) (worth-there (there_of p (slice_index numbers) e) e) (worth-back (back_of p (slice_index numbers) e) e) (h.values e) (h.are_values e below);
    rounded = subst (λ (n : ℕ). IsThousandthUp (pos n +ℤ int_sum_below h.values (length p.links)) bound) (sym (plus-zero (price_total p h.least_prices))) h.rounded;
  }

-- both ways
pub lawful-both : (p : Parts) (cuts : List Cut) (numbers : List ℕ) → HaveNoRates p cuts numbers → AreLawfulNumbers p cuts numbers ↔ AreWithinLimit p numbers
lawful-both p cuts numbers zeros = (λ lawful. lawful.prices_within, lawful-within p cuts numbers zeros)

-- both ways
pub bound-both : (p : Parts) (cuts : List Cut) (g : Region) (numbers : List ℕ) (bound : ℤ) → HaveNoRates p cuts numbers → IsBoundAt p cuts g numbers bound ↔ IsBound p g numbers bound
bound-both p cuts g numbers bound zeros = (bound-alone p cuts numbers zeros g bound, bound-rated p cuts numbers zeros g bound)
