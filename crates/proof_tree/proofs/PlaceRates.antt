-- The price of a place and the rates of the cuts that it crosses are as a link's value asks.
use Rattle.std.proofs.Common.{◌≡◌, ℕ, zero, suc, ◌+◌, ◌*◌, ◌<◌, ◌≤◌, ap, ◌∙◌, Bool, true, false, List, length, slice_index, All, arith, ◌/◌, max, if◌then◌else◌, refl, subst, []}
use Rattle.std.proofs.Math.Nat.{div-le_self}
use Rattle.std.proofs.lemmas.List.Elements.{All-nil, All-push}
use Rattle.std.proofs.lemmas.List.Sums.{sum_by_push, get_or-le-sum_by}
use Rattle.plan_base.specs.declared.parts.Parts.{Parts}
use Rattle.plan_base.specs.declared.limits.TheConstants.{MAX_PRICED_LOAD}
use Rattle.plan_base.specs.Facts.{total_load, price_limit}
use Rattle.plan_base.specs.Places.{is_two_way, places, link_of_place, there_of, back_of}
use Rattle.plan_base.proofs.PlaceSums.{there-within}
use Rattle.link_steps.specs.declared.rated.Rated.{Rated}
use Rattle.link_steps.specs.Tallies.{IsTally, no_rated, ArePlaceRates, rate_total}
use Rattle.proof_tree.specs.declared.cuts.Cut.{Cut}
use Rattle.proof_tree.specs.Cuts.{place_crosses, batch_of, cut_at, IsCut, AreCuts}
use Rattle.proof_tree.specs.RatedBounds.{with_rated, rated_before, rated_on, rated_there, rated_back, AreRatedPrices}

-- what holds of each cut with its rate holds of those that a place crosses
rated-All : (P : Rated → Type 0) (p : Parts) (cuts : List Cut) (rates : List ℕ) (q n : ℕ) → ((i : ℕ) → i < n → P (record { batch = batch_of p (cut_at cuts i) q; rate = slice_index rates i })) → All P (rated_before p cuts rates q n)
rated-All P p cuts rates q zero each = All-nil P
rated-All P p cuts rates q (suc n) each =
    more (place_crosses p (cut_at cuts n).nodes q) (rated_before p cuts rates q n) (record { batch = batch_of p (cut_at cuts n) q; rate = slice_index rates n })
    (rated-All P p cuts rates q n (λ i below. each i (omega arith))) (each n (omega arith))
  where
    more : (b : Bool) (list : List Rated) (here : Rated) → All P list → P here → All P (with_rated b list here)
    more true list here all is = All-push P list here all is
    more false list here all is = all

-- a place may have its price with the rates of the cuts that it crosses
pub place_rates-lawful : (p : Parts) (cuts : List Cut) (prices rates : List ℕ) (q : ℕ) → AreCuts p cuts → AreRatedPrices p cuts prices rates → q < places p → ArePlaceRates p (link_of_place p q) (slice_index prices q) (rated_on p cuts rates q)
place_rates-lawful p cuts prices rates q are lawful below = record {
  tallies = λ i within. rated-All (λ (r : Rated). IsTally r.batch.period r.batch.first) p cuts rates q (length cuts) (λ n few. (let is : IsCut p (cut_at cuts n) = are n few in is.is_tally)) i no_rated within;
  limit = (lawful.each q below).within_limit;
  covers = λ i within positive. (lawful.each q below).cover_routing (let term = get_or-le-sum_by (λ (r : Rated). r.rate) (rated_on p cuts rates q) i no_rated within in omega (arith, term, positive));
}

-- so for each place of a link
pub record HasLinkRates (p : Parts) (e : ℕ) (cuts : List Cut) (prices rates : List ℕ) : Type 0 where
  pub there : ArePlaceRates p e (there_of p (slice_index prices) e) (rated_there p cuts rates e)
  pub other : ArePlaceRates p e (back_of p (slice_index prices) e) (rated_back p cuts rates e)

link-there : (p : Parts) (e : ℕ) → link_of_place p (if is_two_way p.orient then 2 * e else e) ≡ e
link-there p e = by_cases (is_two_way p.orient)
  where
    by_cases : (b : Bool) → (if b then (if b then 2 * e else e) / 2 else (if b then 2 * e else e)) ≡ e
    by_cases true = omega arith
    by_cases false = refl

-- each place of a link may have its price with the rates of the cuts that it crosses
pub link_rates-lawful : (p : Parts) (e : ℕ) (cuts : List Cut) (prices rates : List ℕ) → AreCuts p cuts → AreRatedPrices p cuts prices rates → e < length p.links → HasLinkRates p e cuts prices rates
link_rates-lawful p e cuts prices rates are lawful within = record {
  there = subst (λ (n : ℕ). ArePlaceRates p n (there_of p (slice_index prices) e) (rated_there p cuts rates e)) (link-there p e) (place_rates-lawful p cuts prices rates (if is_two_way p.orient then 2 * e else e) are lawful (there-within p e within));
  other = by_cases (is_two_way p.orient) refl;
}
  where
    second : is_two_way p.orient ≡ true → 2 * e + 1 < places p
    second two = rw two (omega (arith, within))

    link-back : is_two_way p.orient ≡ true → link_of_place p (2 * e + 1) ≡ e
    link-back two = rw two (omega arith)

    by_cases : (b : Bool) → is_two_way p.orient ≡ b → ArePlaceRates p e (if b then slice_index prices (2 * e + 1) else 0) (if b then rated_on p cuts rates (2 * e + 1) else [])
    by_cases true two = subst (λ (n : ℕ). ArePlaceRates p n (slice_index prices (2 * e + 1)) (rated_on p cuts rates (2 * e + 1))) (link-back two) (place_rates-lawful p cuts prices rates (2 * e + 1) are lawful (second two))
    by_cases false one = record { tallies = λ i below. absurd (let none : i < 0 = below in omega arith); limit = omega arith; covers = λ i below. absurd (let none : i < 0 = below in omega arith) }

-- The rates that a place crosses, cut by cut.

-- with one cut more, the rates on a place have that cut's rate more where the place crosses it
pub rate_total-next : (p : Parts) (cuts : List Cut) (rates : List ℕ) (q n : ℕ) → rate_total (rated_before p cuts rates q (n + 1)) ≡ rate_total (rated_before p cuts rates q n) + (if place_crosses p (cut_at cuts n).nodes q then slice_index rates n else 0)
rate_total-next p cuts rates q n =
    let same : n + 1 ≡ suc n = omega arith in
    ap (λ (m : ℕ). rate_total (rated_before p cuts rates q m)) same
    ∙ more (place_crosses p (cut_at cuts n).nodes q) (rated_before p cuts rates q n) (record { batch = batch_of p (cut_at cuts n) q; rate = slice_index rates n })
  where
    more : (b : Bool) (list : List Rated) (here : Rated) → rate_total (with_rated b list here) ≡ rate_total list + (if b then here.rate else 0)
    more true list here = sum_by_push (λ (r : Rated). r.rate) list here
    more false list here = omega arith

-- the price limit alone is at most what it may come to with the total load
pub limit-small : (p : Parts) → price_limit p ≤ MAX_PRICED_LOAD
limit-small p = div-le_self MAX_PRICED_LOAD (max (total_load p) 1)
