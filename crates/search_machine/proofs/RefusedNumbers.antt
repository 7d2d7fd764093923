-- Numbers are refused exactly where they are not as they have to be.
use Rattle.std.proofs.Common.{◌≡◌, ℕ, zero, suc, ◌+◌, ◌*◌, ◌<◌, ◌≤◌, Bool, true, false, not, ◌&&◌, ◌||◌, ◌==◌, List, [], ◌∷◌, length, get_or, slice_index, take, Option, Some, None, slice_get, refl, sym, ap, subst, ◌∙◌, arith, take-append-drop}
use Rattle.std.specs.Prelude.{◌↔◌, IsTrue, option_and_then, nat_lt, nat_le}
use Rattle.std.proofs.lemmas.Bool.Decides.{nat_tests}
use Rattle.std.proofs.lemmas.List.{length-take-le, get_or-take}
use Rattle.std.proofs.lemmas.List.Elements.{All-append, All-take}
use Rattle.std.proofs.lemmas.Option.{get_or_from_slice_get}
use Rattle.plan_base.specs.declared.parts.Parts.{Parts}
use Rattle.plan_base.specs.First.{◌or_else◌, when, first_in, fault_at}
use Rattle.plan_base.specs.Facts.{price_limit}
use Rattle.plan_base.specs.Arcs.{link_at}
use Rattle.plan_base.specs.Places.{places, link_of_place}
use Rattle.plan_base.proofs.Bools.{not-false, not-true}
use Rattle.plan_base.proofs.FirstFault.{or_else-none, none-or_else, when-none, none-when, first_in-none, none-first_in, IsFirst-first_fault}
use Rattle.arc_restrict.specs.Prices.{AreWithinLimit}
use Rattle.proof_tree.specs.declared.cuts.Cut.{Cut}
use Rattle.proof_tree.specs.RatedBounds.{crossing_rates, IsRatedPrice}
use Rattle.proof_tree.specs.RatedEvidence.{rates_in, AreLawfulNumbers}
use Rattle.proof_tree.proofs.CutlessPlans.{lawful-without}
use Rattle.cut_values.specs.Numbers.{AreNumbers}
use Rattle.search_machine.specs.declared.answers.Publish.{Publish}
use Rattle.search_machine.specs.declared.answers.Publish.TheVariants as publish
use Rattle.search_machine.specs.Publishing.{price_fault, rate_fault, is_rated, rated_fault, unlawful_fault}
use Rattle.search_machine.proofs.Lists.{All-at}

not_below : (limit price : ℕ) → price ≤ limit → nat_lt limit price ≡ false
not_below limit price h = grind (arith, nat_tests)

not_above : (limit price : ℕ) → nat_lt limit price ≡ false → price ≤ limit
not_above limit price h = grind (arith, nat_tests)

-- the test of a place's price with its rates
rated-so : (sum limit rate least price : ℕ) → sum ≤ limit → (0 < rate → least ≤ price) → (nat_le sum limit && (rate == 0 || nat_le least price)) ≡ true
rated-so sum limit rate least price within cover = grind (arith, nat_tests)

rated-within : (sum limit rate least price : ℕ) → (nat_le sum limit && (rate == 0 || nat_le least price)) ≡ true → sum ≤ limit
rated-within sum limit rate least price h = grind (arith, nat_tests)

rated-cover : (sum limit rate least price : ℕ) → (nat_le sum limit && (rate == 0 || nat_le least price)) ≡ true → 0 < rate → least ≤ price
rated-cover sum limit rate least price h some = grind (arith, nat_tests)

-- some item of a list has the first fault that a check finds there
pub first_in-at : {X F : Type 0} (check : ℕ → X → Option F) (xs : List X) (a : F) → first_in check xs ≡ Some a → (i : ℕ) × (x : X) × (check i x ≡ Some a)
first_in-at {X} {F} check xs a h = let first = IsFirst-first_fault (fault_at check xs) (length xs) a h in at first.place (slice_get xs first.place) first.found
  where
    at : (i : ℕ) (o : Option X) → option_and_then (check i) o ≡ Some a → (j : ℕ) × (x : X) × (check j x ≡ Some a)
    at i None is = let bad : ◌≡◌ {A = Option F} None (Some a) = is in absurd (cc)
    at i (Some x) is = (i, x, is)

-- a test finds this fault alone
pub when-only : {F : Type 0} (test : Bool) (e b : F) → when test e ≡ Some b → b ≡ e
when-only true e b is = (let same : Some e ≡ Some b = is in cc)
when-only {F} false e b is = let bad : ◌≡◌ {A = Option F} None (Some b) = is in absurd (cc)

slice_get-take : {X : Type 0} (n : ℕ) (xs : List X) (i : ℕ) (x : X) → slice_get (take n xs) i ≡ Some x → (i < n) × (slice_get xs i ≡ Some x)
slice_get-take {X} zero xs i x is = let bad : ◌≡◌ {A = Option X} None (Some x) = is in absurd (cc)
slice_get-take {X} (suc n) [] i x is = let bad : ◌≡◌ {A = Option X} None (Some x) = is in absurd (cc)
slice_get-take (suc n) (y ∷ xs) zero x is = (omega arith, is)
slice_get-take (suc n) (y ∷ xs) (suc i) x is = let rest = slice_get-take n xs i x is in (omega (arith, rest.0), rest.1)

module _ (p : Parts) (cuts : List Cut) (numbers : List ℕ) where
  abbrev prices : List ℕ
  prices = take (places p) numbers

  abbrev rates : List ℕ
  rates = rates_in p numbers

  -- prices within the limit are not refused
  pub none-over_price : AreWithinLimit p numbers → first_in (price_fault p) prices ≡ None
  none-over_price h =
      none-first_in (price_fault p) prices (λ q price at.
      none-when _ (publish.OverPrice (record { 0 = link_of_place p q }))
      (not_below (price_limit p) price (All-at (λ x. x ≤ price_limit p) prices q price (All-take (λ x. x ≤ price_limit p) (places p) numbers h) at)))

  -- lawful numbers are not refused
  pub lawful-unfaulted : AreLawfulNumbers p cuts numbers → unlawful_fault p cuts numbers ≡ None
  lawful-unfaulted h = none-or_else _ _
      (none-first_in (rate_fault p) rates (λ i rate at. none-when _ publish.Unlawful (not_below (price_limit p) rate (All-at (λ x. x ≤ price_limit p) rates i rate h.rates_within at))))
      (none-first_in (rated_fault p cuts rates) prices (λ q price at. none-when _ publish.Unlawful (not-true _ (here q price at))))
    where
      here : (q price : ℕ) → slice_get prices q ≡ Some price → is_rated p q price (crossing_rates p cuts rates q) ≡ true
      here q price at =
          let there = slice_get-take (places p) numbers q price at in
          let rated : IsRatedPrice p cuts price rates q = subst (λ (x : ℕ). IsRatedPrice p cuts x rates q) (get_or_from_slice_get numbers q price 0 there.1) (h.each q there.0) in
          rated-so (price + crossing_rates p cuts rates q) (price_limit p) (crossing_rates p cuts rates q) (1000 * (link_at p (link_of_place p q)).routing) price rated.within_limit rated.cover_routing

  -- prices that are not refused are within the limit
  pub over_price-none : first_in (price_fault p) prices ≡ None → AreWithinLimit p prices
  over_price-none over q d inside = not_above (price_limit p) (get_or prices q d) (when-none _ (publish.OverPrice (record { 0 = link_of_place p q })) (first_in-none (price_fault p) prices over q d inside))

  -- numbers that are not refused are lawful
  pub unfaulted-lawful : places p ≤ length numbers → first_in (price_fault p) prices ≡ None → unlawful_fault p cuts numbers ≡ None → AreLawfulNumbers p cuts numbers
  unfaulted-lawful long over none = record {
    prices_within = subst (AreWithinLimit p) (take-append-drop (places p) numbers) (All-append (λ x. x ≤ price_limit p) prices rates (over_price-none over) rates-within);
    rates_within = rates-within;
    each = λ q inside.
        let size : length prices ≡ places p = length-take-le (places p) numbers long in
        let free = when-none _ publish.Unlawful (first_in-none (rated_fault p cuts rates) prices both.1 q 0 (omega arith)) in
        let read : get_or prices q 0 ≡ slice_index numbers q = get_or-take (places p) numbers q 0 inside in
        let told : is_rated p q (slice_index numbers q) (crossing_rates p cuts rates q) ≡ true = ap (λ (x : ℕ). is_rated p q x (crossing_rates p cuts rates q)) (sym read) ∙ not-false _ free in
        rated q (slice_index numbers q) told;
  }
    where
      both : (first_in (rate_fault p) rates ≡ None) × (first_in (rated_fault p cuts rates) prices ≡ None)
      both = or_else-none (first_in (rate_fault p) rates) (first_in (rated_fault p cuts rates) prices) none

      rates-within : AreWithinLimit p rates
      rates-within i d inside = not_above (price_limit p) (get_or rates i d) (when-none _ publish.Unlawful (first_in-none (rate_fault p) rates both.0 i d inside))

      rated : (q price : ℕ) → is_rated p q price (crossing_rates p cuts rates q) ≡ true → IsRatedPrice p cuts price rates q
      rated q price told =
          let rate = crossing_rates p cuts rates q in
          let least = 1000 * (link_at p (link_of_place p q)).routing in
          record { within_limit = rated-within (price + rate) (price_limit p) rate least price told; cover_routing = rated-cover (price + rate) (price_limit p) rate least price told }

  -- no other refusal is among these
  pub unlawful_only : (a : Publish) → unlawful_fault p cuts numbers ≡ Some a → a ≡ publish.Unlawful
  unlawful_only a h = by (first_in (rate_fault p) rates) refl h
    where
      by : (o : Option Publish) → first_in (rate_fault p) rates ≡ o → (o or_else first_in (rated_fault p cuts rates) prices) ≡ Some a → a ≡ publish.Unlawful
      by None is x = when-only _ publish.Unlawful a (first_in-at (rated_fault p cuts rates) prices a x).2
      by (Some b) is x = when-only _ publish.Unlawful a (first_in-at (rate_fault p) rates a (is ∙ x)).2

  -- a test of the numbers tells the refusal
  pub unlawful-told : (b : Bool) → IsTrue b ↔ AreNumbers p cuts numbers → length numbers ≡ places p + length cuts → first_in (price_fault p) prices ≡ None → when (not b) publish.Unlawful ≡ unlawful_fault p cuts numbers
  unlawful-told true lawful count over = sym (lawful-unfaulted (lawful.0 refl).lawful)
  unlawful-told false lawful count over = by (unlawful_fault p cuts numbers) refl
    where
      by : (o : Option Publish) → unlawful_fault p cuts numbers ≡ o → Some publish.Unlawful ≡ o
      by None is = let bad : false ≡ true = lawful.1 (record { count = count; lawful = unfaulted-lawful (omega arith) over is }) in absurd (cc)
      by (Some a) is = ap (λ (x : Publish). Some x) (sym (unlawful_only a is))

-- without cuts prices within the limit are lawful
pub unlawful-without : (p : Parts) (numbers : List ℕ) → AreWithinLimit p numbers → unlawful_fault p [] numbers ≡ None
unlawful-without p numbers within = lawful-unfaulted p [] numbers (lawful-without p numbers within)
