-- Prices that move within what the rates leave.
use Rattle.std.proofs.Common.{◌≡◌, ℕ, ◌+◌, ◌-◌, ◌*◌, ◌<◌, ◌≤◌, inl, inr, Bool, true, false, List, length, set, slice_index, if◌then◌else◌, refl, sym, subst, ◌∙◌, arith}
use Rattle.std.specs.Prelude.{nat_lt}
use Rattle.std.proofs.lemmas.Bool.{ltb-true, lt-ltb, cases_eq}
use Rattle.std.proofs.lemmas.List.{length-set, length-drop, get_or-set_same, get_or-set_other, ext_get_or}
use Rattle.std.proofs.lemmas.List.Elements.{All-drop, All-from_get_or}
use Rattle.plan_base.specs.declared.parts.Parts.{Parts}
use Rattle.plan_base.specs.Facts.{price_limit}
use Rattle.plan_base.specs.Arcs.{link_at}
use Rattle.plan_base.specs.Places.{places, link_of_place}
use Rattle.link_steps.proofs.Order.{either_way}
use Rattle.arc_restrict.specs.Prices.{AreWithinLimit}
use Rattle.proof_tree.specs.declared.cuts.Cut.{Cut}
use Rattle.proof_tree.specs.RatedBounds.{crossing_rates, IsRatedPrice}
use Rattle.proof_tree.specs.RatedEvidence.{rates_in}
use Rattle.cut_values.specs.Numbers.{AreNumbers, least_price_at, most_price_at, IsPriceWithin, AreMovedWithin}
use Rattle.cut_values.proofs.NoRates.{rate-read}

-- the least price at a rate
least_at : ℕ → ℕ → ℕ
least_at routing rate = if nat_lt 0 rate then 1000 * routing else 0

least_at-below : (routing rate price : ℕ) → (0 < rate → 1000 * routing ≤ price) → (if nat_lt 0 rate then 1000 * routing else 0) ≤ price
least_at-below routing rate price covers = by_cases (nat_lt 0 rate) refl
  where
    by_cases : (b : Bool) → nat_lt 0 rate ≡ b → (if b then 1000 * routing else 0) ≤ price
    by_cases true is = covers (ltb-true 0 rate is)
    by_cases false is = omega arith

least_at-covers : (routing rate price : ℕ) → (if nat_lt 0 rate then 1000 * routing else 0) ≤ price → 0 < rate → 1000 * routing ≤ price
least_at-covers routing rate price least some = subst (λ (b : Bool). (if b then 1000 * routing else 0) ≤ price) (lt-ltb 0 rate some) least

-- a price with these rates is lawful exactly within its bounds
pub rated-within : (p : Parts) (cuts : List Cut) (numbers : List ℕ) (q price : ℕ) → IsRatedPrice p cuts price (rates_in p numbers) q → IsPriceWithin p cuts numbers q price
rated-within p cuts numbers q price is = record {
  enough = least_at-below (link_at p (link_of_place p q)).routing (crossing_rates p cuts (rates_in p numbers) q) price is.cover_routing;
  few = omega (arith, is.within_limit);
}

-- the price of a place is within its bounds
pub here-within : (p : Parts) (cuts : List Cut) (numbers : List ℕ) (q : ℕ) → AreNumbers p cuts numbers → q < places p → IsPriceWithin p cuts numbers q (slice_index numbers q)
here-within p cuts numbers q are below = rated-within p cuts numbers q (slice_index numbers q) (are.lawful.each q below)

-- so the bounds of a place are in order
pub bounds-ordered : (p : Parts) (cuts : List Cut) (numbers : List ℕ) (q : ℕ) → AreNumbers p cuts numbers → q < places p → least_price_at p cuts numbers q ≤ most_price_at p cuts numbers q
bounds-ordered p cuts numbers q are below =
    let here = here-within p cuts numbers q are below in
    omega (arith, here.enough, here.few)

-- moved numbers have the rates of the old ones
pub moved-rates : (p : Parts) (cuts : List Cut) (old new : List ℕ) → AreNumbers p cuts old → AreMovedWithin p cuts old new → rates_in p new ≡ rates_in p old
moved-rates p cuts old new are moved =
    ext_get_or 0 (rates_in p new) (rates_in p old) (omega (arith, length-drop (places p) new, length-drop (places p) old, moved.count))
    (λ i within. rate-read p new i ∙ (moved.rates i (omega (arith, within, length-drop (places p) new, moved.count, are.count)) ∙ sym (rate-read p old i)))

-- and are as numbers have to be
pub moved-numbers : (p : Parts) (cuts : List Cut) (old new : List ℕ) → AreNumbers p cuts old → AreMovedWithin p cuts old new → AreNumbers p cuts new
moved-numbers p cuts old new are moved = record {
  count = moved.count ∙ are.count;
  lawful = record {
    prices_within = all;
    rates_within = All-drop (λ (n : ℕ). n ≤ price_limit p) (places p) new all;
    each = λ q below. subst (λ (rates : List ℕ). IsRatedPrice p cuts (slice_index new q) rates q) (sym (moved-rates p cuts old new are moved)) (price q below);
  };
}
  where
    price : (q : ℕ) → q < places p → IsRatedPrice p cuts (slice_index new q) (rates_in p old) q
    price q below =
        let within = moved.prices q below in
        let old_limit = (are.lawful.each q below).within_limit in
        record {
          within_limit = omega (arith, within.few, old_limit);
          cover_routing = least_at-covers (link_at p (link_of_place p q)).routing (crossing_rates p cuts (rates_in p old) q) (slice_index new q) within.enough;
        }

    read : (i : ℕ) → i < length new → slice_index new i ≤ price_limit p
    read i within = elim (either_way (places p) i) [
      | inl rate ↦
          (let behind : places p + (i - places p) ≡ i = omega (arith, rate) in
          let same : slice_index new (places p + (i - places p)) ≡ slice_index old (places p + (i - places p)) = moved.rates (i - places p) (omega (arith, rate, within, moved.count, are.count)) in
          let limit : slice_index old i ≤ price_limit p = are.lawful.prices_within i 0 (omega (arith, within, moved.count)) in
          omega (arith, limit, rw behind at same))
      | inr place ↦ (let is = (price i place).within_limit in omega (arith, is))
    ]

    all : AreWithinLimit p new
    all = All-from_get_or (λ (n : ℕ). n ≤ price_limit p) new 0 read

-- one price that is put within its bounds moves numbers
pub put-moved : (p : Parts) (cuts : List Cut) (numbers : List ℕ) (q price : ℕ) → AreNumbers p cuts numbers → q < places p → IsPriceWithin p cuts numbers q price → AreMovedWithin p cuts numbers (set numbers q price)
put-moved p cuts numbers q price are below within = record {
  count = length-set numbers q price;
  prices = λ other inside. elim (cases_eq other q) [
    | inl same ↦
        (let here : slice_index (set numbers q price) q ≡ price = get_or-set_same {A = ℕ} numbers q price 0 (omega (arith, below, are.count)) in
        rw same (rw here within))
    | inr apart ↦
        (let there : slice_index (set numbers q price) other ≡ slice_index numbers other = get_or-set_other {A = ℕ} numbers q other price 0 apart in
        rw there (here-within p cuts numbers other are inside))
  ];
  rates = λ i few. get_or-set_other {A = ℕ} numbers q (places p + i) price 0 (λ same. absurd (omega (arith, same, below)));
}
