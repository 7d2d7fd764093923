-- A region has at most one bound at given prices.
use Rattle.std.proofs.Common.{◌≡◌, ℕ, zero, suc, ◌*◌, ◌<◌, List, length, slice_index, refl, sym, ap, subst, ◌∙◌, arith}
use Rattle.std.specs.Prelude.{ℤ, pos, ◌+ℤ◌, ◌≤ℤ◌}
use Rattle.std.proofs.lemmas.Int.{ints}
use Rattle.plan_base.specs.declared.parts.Parts.{Parts}
use Rattle.plan_base.specs.Arcs.{demand_at}
use Rattle.plan_base.specs.Places.{there_of, back_of}
use Rattle.link_steps.specs.declared.range.LinkRanges.{LinkRanges}
use Rattle.link_steps.specs.Values.{ranges_of_link, IsLinkValue}
use Rattle.arc_restrict.specs.Restrictions.{Forbidden}
use Rattle.arc_restrict.specs.Prices.{IsLeastPrice}
use Rattle.plan_base.specs.Sums.{int_sum_below}
use Rattle.proof_tree.specs.Regions.{Region}
use Rattle.proof_tree.specs.Bounds.{IsThousandthUp, price_total, IsBound}
use Rattle.plan_base.proofs.SumsBelow.{sum_below-same}

-- a demand has at most one least price
pub least_price-unique : (p : Parts) (r : Forbidden) (prices : List ℕ) (k a b : ℕ) → IsLeastPrice p r prices k a → IsLeastPrice p r prices k b → a ≡ b
least_price-unique p r prices k a b ha hb =
    let to_b = ha.least hb.path hb.permitted in
    let to_a = hb.least ha.path ha.permitted in
    omega (arith, ha.attained, hb.attained)

-- two whole numbers, each at most the other, are the same
pub antisymmetric : (v w : ℤ) → v ≤ℤ w → w ≤ℤ v → v ≡ w
antisymmetric v w h k = omega (arith, ints)

-- a link has at most one value at given ranges and prices
pub link_value-unique : (p : Parts) (e : ℕ) (ranges : LinkRanges) (price back_price : ℕ) (v w : ℤ) → IsLinkValue p e ranges price back_price v → IsLinkValue p e ranges price back_price w → v ≡ w
link_value-unique p e ranges price back_price v w hv hw =
    antisymmetric v w
    (subst (λ (x : ℤ). v ≤ℤ x) hw.give.attained (hv.least hw.load hw.back hw.give.cost hw.give.in_range hw.give.back_in_range hw.give.is_cost))
    (subst (λ (x : ℤ). w ≤ℤ x) hv.give.attained (hw.least hv.load hv.back hv.give.cost hv.give.in_range hv.give.back_in_range hv.give.is_cost))

-- sums of the same whole numbers are the same
pub int_sum_below-same : (f g : ℕ → ℤ) (n : ℕ) → ((i : ℕ) → i < n → f i ≡ g i) → int_sum_below f n ≡ int_sum_below g n
int_sum_below-same f g zero h = refl
int_sum_below-same f g (suc n) h = ap (λ x. x +ℤ f n) (int_sum_below-same f g n (λ i below. h i (omega arith))) ∙ ap (λ x. int_sum_below g n +ℤ x) (h n (omega arith))

-- a total has at most one thousandth, rounded up
pub thousandth-unique : (total v w : ℤ) → IsThousandthUp total v → IsThousandthUp total w → v ≡ w
thousandth-unique total v w hv hw = antisymmetric v w (hv.least w hw.reaches) (hw.least v hv.reaches)

-- a region has at most one bound at given prices of places
pub bound-unique : (p : Parts) (g : Region) (prices : List ℕ) (v w : ℤ) → IsBound p g prices v → IsBound p g prices w → v ≡ w
bound-unique p g prices v w hv hw =
    let priced : price_total p hv.least_prices ≡ price_total p hw.least_prices =
    sum_below-same (λ k. (demand_at p k).load * hv.least_prices k) (λ k. (demand_at p k).load * hw.least_prices k) (length p.demands)
    (λ k below. ap (λ x. (demand_at p k).load * x) (least_price-unique p g.forbidden prices k _ _ (hv.are_least k below) (hw.are_least k below))) in
    let valued = int_sum_below-same hv.values hw.values (length p.links) (λ e below. link_value-unique p e (ranges_of_link p g.ranges e) (there_of p (slice_index prices) e) (back_of p (slice_index prices) e) _ _ (hv.are_values e below) (hw.are_values e below)) in
    let totals : (pos (price_total p hv.least_prices) +ℤ int_sum_below hv.values (length p.links)) ≡ (pos (price_total p hw.least_prices) +ℤ int_sum_below hw.values (length p.links)) =
    ap (λ x. pos x +ℤ int_sum_below hv.values (length p.links)) priced ∙ ap (λ x. pos (price_total p hw.least_prices) +ℤ x) valued in
    thousandth-unique _ v w hv.rounded (subst (λ (total : ℤ). IsThousandthUp total w) (sym totals) hw.rounded)
