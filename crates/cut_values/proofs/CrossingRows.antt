-- What the row of a place has.
use Rattle.std.proofs.Common.{◌≡◌, ℕ, zero, suc, ◌<◌, ◌≤◌, Bool, true, false, List, [], ◌∷◌, map, length, slice_index, refl, ap, ◌∙◌, arith}
use Rattle.std.proofs.lemmas.List.{length_push}
use Rattle.std.proofs.lemmas.List.Elements.{All-nil, All-push, All-weaker}
use Rattle.std.proofs.lemmas.List.Sums.{sum_by-cons}
use Rattle.plan_base.specs.declared.parts.Parts.{Parts}
use Rattle.link_steps.specs.declared.rated.Rated.{Rated}
use Rattle.link_steps.specs.Tallies.{rate_total}
use Rattle.proof_tree.specs.declared.cuts.Cut.{Cut}
use Rattle.proof_tree.specs.Cuts.{place_crosses, batch_of, cut_at}
use Rattle.proof_tree.specs.RatedBounds.{crossing_rates}
use Rattle.cut_values.specs.declared.crossing.Crossing.{Crossing}
use Rattle.cut_values.specs.Crossings.{with_crossing, crossings_before, crossings_on, rated_of, AreNumbered, rates_on}
use Rattle.cut_values.proofs.UsedRates.{rated-crossings}

-- it has no more than there are cuts
pub crossings-few : (p : Parts) (cuts : List Cut) (q n : ℕ) → length (crossings_before p cuts q n) ≤ n
crossings-few p cuts q zero = omega arith
crossings-few p cuts q (suc n) =
    more (place_crosses p (cut_at cuts n).nodes q) (crossings_before p cuts q n) (record { number = n; batch = batch_of p (cut_at cuts n) q }) (crossings-few p cuts q n)
  where
    more : (b : Bool) (row : List Crossing) (here : Crossing) → length row ≤ n → length (with_crossing b row here) ≤ suc n
    more true row here few = omega (arith, length_push row here, few)
    more false row here few = omega (arith, few)

-- each of them is of a cut
pub crossings-numbered : (p : Parts) (cuts : List Cut) (q n : ℕ) → AreNumbered n (crossings_before p cuts q n)
crossings-numbered p cuts q zero = All-nil (λ (c : Crossing). c.number < 0)
crossings-numbered p cuts q (suc n) =
    more (place_crosses p (cut_at cuts n).nodes q) (crossings_before p cuts q n) (record { number = n; batch = batch_of p (cut_at cuts n) q }) (omega arith)
    (All-weaker (λ (c : Crossing). c.number < n) (λ (c : Crossing). c.number < suc n) (λ c below. omega (arith, below)) (crossings_before p cuts q n) (crossings-numbered p cuts q n))
  where
    more : (b : Bool) (row : List Crossing) (here : Crossing) → here.number < suc n → AreNumbered (suc n) row → AreNumbered (suc n) (with_crossing b row here)
    more true row here is all = All-push (λ (c : Crossing). c.number < suc n) row here all is
    more false row here is all = all

rates-total : (rates : List ℕ) (row : List Crossing) → rates_on rates row ≡ rate_total (map (rated_of rates) row)
rates-total rates [] = refl
rates-total rates (c ∷ row) =
    let mine = sum_by-cons (λ (d : Crossing). slice_index rates d.number) c row in
    let whole = sum_by-cons (λ (r : Rated). r.rate) (rated_of rates c) (map (rated_of rates) row) in
    omega (arith, mine, whole, rates-total rates row)

-- its rates together are those of the cuts that the place crosses
pub rates_on-crossing : (p : Parts) (cuts : List Cut) (rates : List ℕ) (q : ℕ) → rates_on rates (crossings_on p cuts q) ≡ crossing_rates p cuts rates q
rates_on-crossing p cuts rates q = rates-total rates (crossings_on p cuts q) ∙ ap rate_total (rated-crossings p cuts rates q (length cuts))
