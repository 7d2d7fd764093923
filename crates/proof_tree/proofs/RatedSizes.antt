-- What loads are worth at prices and rates within their limits is small.
use Rattle.std.proofs.Common.{◌≡◌, ℕ, zero, suc, ◌+◌, ◌*◌, ◌<◌, ◌≤◌, Bool, true, false, List, length, slice_index, arith, max, inl, inr}
use Rattle.std.proofs.Math.Nat.{mul-le-mul, mul-le-mul_left, div-mul-le_self}
use Rattle.std.proofs.lemmas.List.{get_or_past}
use Rattle.std.proofs.lemmas.List.Sums.{sum_by_push}
use Rattle.plan_base.specs.declared.parts.Parts.{Parts}
use Rattle.plan_base.specs.declared.limits.TheConstants.{MAX_PRICED_LOAD}
use Rattle.plan_base.specs.Facts.{total_load, top_load, price_limit}
use Rattle.plan_base.specs.Arcs.{link_at}
use Rattle.plan_base.specs.Places.{places, link_of_place}
use Rattle.link_steps.specs.declared.rated.Rated.{Rated}
use Rattle.link_steps.specs.Tallies.{part, rate_total}
use Rattle.link_steps.proofs.TallyLaws.{tally-le, part-le}
use Rattle.link_steps.proofs.Prices.{slope-within}
use Rattle.arc_restrict.specs.Prices.{AreWithinLimit}
use Rattle.proof_tree.specs.declared.cuts.Cut.{Cut}
use Rattle.proof_tree.specs.Cuts.{place_crosses, batch_of, rest_of, least_count, cut_at, IsCut, AreCuts}
use Rattle.proof_tree.specs.RatedBounds.{with_rated, rated_before, crossing_rates, cut_total, AreRatedPrices}
use Rattle.link_steps.proofs.Order.{either_way}
use Rattle.plan_base.specs.Sums.{sum_below}
use Rattle.proof_tree.proofs.CutChecks.{crossing-le-total}
use Rattle.proof_tree.proofs.RatedWorths.{rated_sum, place_worth}

-- what the cuts before a count give for a load is at most the load at their rates
rated_sum-few : (p : Parts) (cuts : List Cut) (rates : List ℕ) (q x n : ℕ) → AreCuts p cuts → n ≤ length cuts → rated_sum (rated_before p cuts rates q n) x ≤ x * rate_total (rated_before p cuts rates q n)
rated_sum-few p cuts rates q x zero are within = omega arith
rated_sum-few p cuts rates q x (suc n) are within =
    let is : IsCut p (cut_at cuts n) = are n (omega arith) in
    more (place_crosses p (cut_at cuts n).nodes q) (rated_before p cuts rates q n) (record { batch = batch_of p (cut_at cuts n) q; rate = slice_index rates n })
    (part-le (batch_of p (cut_at cuts n) q) x is.is_tally) (rated_sum-few p cuts rates q x n are (omega arith))
  where
    more : (b : Bool) (list : List Rated) (here : Rated) → part here.batch x ≤ x → rated_sum list x ≤ x * rate_total list
        → rated_sum (with_rated b list here) x ≤ x * rate_total (with_rated b list here)
    more true list here few before =
        let sum = sum_by_push (λ (r : Rated). r.rate * part r.batch x) list here in
        let rates_too = sum_by_push (λ (r : Rated). r.rate) list here in
        let times : here.rate * part here.batch x ≤ here.rate * x = mul-le-mul_left here.rate few in
        spread (rated_sum list x) (rate_total list) here.rate (here.rate * part here.batch x) _ _ sum rates_too times before
      where
        spread : (counted rate more_rate more_counted all_counted all_rates : ℕ) → all_counted ≡ counted + more_counted → all_rates ≡ rate + more_rate → more_counted ≤ more_rate * x → counted ≤ x * rate → all_counted ≤ x * all_rates
        spread counted rate more_rate more_counted all_counted all_rates one two few le = rw (one, two) (omega (arith, few, le))
    more false list here few before = before

-- what a load up to the top load is worth is as small as it is at prices alone
pub worth-small : (p : Parts) (cuts : List Cut) (prices rates : List ℕ) (q load : ℕ) → AreCuts p cuts → AreRatedPrices p cuts prices rates → q < places p → load ≤ top_load p (link_at p (link_of_place p q)) → place_worth p cuts prices rates q load ≤ MAX_PRICED_LOAD
worth-small p cuts prices rates q load are lawful below few =
    let full = slice_index prices q + crossing_rates p cuts rates q in
    let counted = rated_sum-few p cuts rates q load (length cuts) are (omega arith) in
    let priced = slope-within p (link_at p (link_of_place p q)) full full load (lawful.each q below).within_limit (omega arith) few in
    omega (arith, counted, priced)

-- a cut counts at least at most the total load
least_count-le-total : (p : Parts) (cut : Cut) → IsCut p cut → least_count p cut ≤ total_load p
least_count-le-total p cut is =
    let tally = tally-le cut.period cut.first (rest_of p cut) is.is_tally in
    let load = crossing-le-total p cut.nodes (length p.demands) (omega arith) in
    omega (arith, tally, load)

-- what a rate within the limit comes to with what its cut counts at least is small
pub cut_worth-small : (p : Parts) (cuts : List Cut) (rates : List ℕ) (i : ℕ) → AreCuts p cuts → AreWithinLimit p rates → i < length cuts → slice_index rates i * least_count p (cut_at cuts i) ≤ MAX_PRICED_LOAD
cut_worth-small p cuts rates i are lawful within =
    let few = least_count-le-total p (cut_at cuts i) (are i within) in
    let product : slice_index rates i * least_count p (cut_at cuts i) ≤ price_limit p * max (total_load p) 1 = mul-le-mul rate-within (let le : least_count p (cut_at cuts i) ≤ max (total_load p) 1 = omega (arith, few) in le) in
    omega (arith, product, div-mul-le_self MAX_PRICED_LOAD (max (total_load p) 1))
  where
    rate-within : slice_index rates i ≤ price_limit p
    rate-within = elim (either_way (length rates) i) [
      | inl past ↦ (let none : slice_index rates i ≡ 0 = get_or_past rates i 0 past in omega (arith, none))
      | inr inside ↦ lawful i 0 inside
    ]

-- and so for all cuts together
pub cut_total-small : (p : Parts) (cuts : List Cut) (prices rates : List ℕ) → AreCuts p cuts → AreRatedPrices p cuts prices rates → cut_total p cuts rates ≤ length cuts * MAX_PRICED_LOAD
cut_total-small p cuts prices rates are lawful = below (length cuts) (omega arith)
  where
    below : (n : ℕ) → n ≤ length cuts → sum_below (λ i. slice_index rates i * least_count p (cut_at cuts i)) n ≤ n * MAX_PRICED_LOAD
    below zero within = omega arith
    below (suc n) within = omega (arith, below n (omega arith), cut_worth-small p cuts rates n are lawful.rates_within (omega arith))
