-- A region has at most one bound at given prices and rates.
use Rattle.std.proofs.Common.{◌≡◌, ℕ, ◌+◌, ◌*◌, List, length, slice_index, sym, ap, subst, ◌∙◌}
use Rattle.std.specs.Prelude.{ℤ, pos, ◌+ℤ◌, ◌≤ℤ◌}
use Rattle.plan_base.specs.declared.parts.Parts.{Parts}
use Rattle.plan_base.specs.Arcs.{demand_at}
use Rattle.plan_base.specs.Places.{there_of, back_of}
use Rattle.plan_base.specs.Sums.{int_sum_below}
use Rattle.plan_base.proofs.SumsBelow.{sum_below-same}
use Rattle.link_steps.specs.declared.rated.Rated.{Rated}
use Rattle.link_steps.specs.declared.range.LinkRanges.{LinkRanges}
use Rattle.link_steps.specs.Values.{ranges_of_link}
use Rattle.link_steps.specs.WorthValues.{IsWorthValue}
use Rattle.proof_tree.specs.declared.cuts.Cut.{Cut}
use Rattle.proof_tree.specs.Regions.{Region}
use Rattle.proof_tree.specs.Bounds.{IsThousandthUp, price_total}
use Rattle.proof_tree.specs.RatedBounds.{rated_there, rated_back, cut_total, IsRatedBound}
use Rattle.proof_tree.proofs.Uniqueness.{antisymmetric, least_price-unique, int_sum_below-same, thousandth-unique}

worth_value-unique : (p : Parts) (e : ℕ) (ranges : LinkRanges) (price : ℕ) (rated : List Rated) (back_price : ℕ) (back_rated : List Rated) (v w : ℤ) → IsWorthValue p e ranges price rated back_price back_rated v → IsWorthValue p e ranges price rated back_price back_rated w → v ≡ w
worth_value-unique p e ranges price rated back_price back_rated v w hv hw =
    antisymmetric v w
    (subst (λ (x : ℤ). v ≤ℤ x) hw.give.attained (hv.least hw.load hw.back hw.give.cost hw.give.in_range hw.give.back_in_range hw.give.is_cost))
    (subst (λ (x : ℤ). w ≤ℤ x) hv.give.attained (hw.least hv.load hv.back hv.give.cost hv.give.in_range hv.give.back_in_range hv.give.is_cost))

-- a region has at most one bound at given prices of places and rates of cuts
pub rated_bound-unique : (p : Parts) (cuts : List Cut) (g : Region) (prices rates : List ℕ) (v w : ℤ) → IsRatedBound p cuts g prices rates v → IsRatedBound p cuts g prices rates w → v ≡ w
rated_bound-unique p cuts g prices rates v w hv hw =
    let c = cut_total p cuts rates in
    let priced : price_total p hv.least_prices ≡ price_total p hw.least_prices =
    sum_below-same (λ k. (demand_at p k).load * hv.least_prices k) (λ k. (demand_at p k).load * hw.least_prices k) (length p.demands)
    (λ k below. ap (λ x. (demand_at p k).load * x) (least_price-unique p g.forbidden prices k _ _ (hv.are_least k below) (hw.are_least k below))) in
    let valued = int_sum_below-same hv.values hw.values (length p.links) (λ e below. worth_value-unique p e (ranges_of_link p g.ranges e)
    (there_of p (slice_index prices) e) (rated_there p cuts rates e) (back_of p (slice_index prices) e) (rated_back p cuts rates e) _ _ (hv.are_values e below) (hw.are_values e below)) in
    let totals : (pos (price_total p hv.least_prices + c) +ℤ int_sum_below hv.values (length p.links)) ≡ (pos (price_total p hw.least_prices + c) +ℤ int_sum_below hw.values (length p.links)) =
    ap (λ (x : ℕ). pos (x + c) +ℤ int_sum_below hv.values (length p.links)) priced ∙ ap (λ x. pos (price_total p hw.least_prices + c) +ℤ x) valued in
    thousandth-unique _ v w hv.rounded (subst (λ (total : ℤ). IsThousandthUp total w) (sym totals) hw.rounded)
