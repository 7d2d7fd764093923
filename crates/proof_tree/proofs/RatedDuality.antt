-- A bound with rates is at most the cost of each feasible design in its region.
use Rattle.std.proofs.Common.{◌≡◌, ℕ, ◌+◌, ◌*◌, ◌<◌, ◌≤◌, List, length, refl, arith}
use Rattle.std.specs.Prelude.{ℤ, pos, ◌+ℤ◌, ◌-ℤ◌, ◌*ℤ◌, ◌≤ℤ◌}
use Rattle.std.proofs.lemmas.Int.{ints}
use Rattle.plan_base.specs.declared.parts.Parts.{Parts}
use Rattle.plan_base.specs.declared.path.Design.{Design}
use Rattle.plan_base.specs.Sums.{sum_below, int_sum_below}
use Rattle.plan_base.specs.Arcs.{link_at}
use Rattle.plan_base.specs.Places.{there_of, back_of}
use Rattle.plan_base.specs.Designs.{counts_at, load_at, need, link_cost, module_cost_with, cost_of, IsDesign, IsFeasible}
use Rattle.plan_base.proofs.SumsBelow.{sum_below-times}
use Rattle.link_steps.specs.declared.range.LoadRange.{LoadRange}
use Rattle.link_steps.proofs.LeastCosts.{least_cost-exists}
use Rattle.proof_tree.specs.declared.cuts.Cut.{Cut}
use Rattle.proof_tree.specs.Cuts.{AreCuts}
use Rattle.proof_tree.specs.Regions.{Region, AreInRange, LiesWithin}
use Rattle.proof_tree.specs.Bounds.{price_total}
use Rattle.proof_tree.specs.RatedBounds.{IsRatedValue, cut_total, IsRatedBound}
use Rattle.proof_tree.proofs.SignedSums.{int_sum_below-le}
use Rattle.proof_tree.proofs.RangeLaws.{Carries-feasible, loads-in_range}
use Rattle.proof_tree.proofs.Duality.{price_total-le}
use Rattle.proof_tree.proofs.RatedWorths.{link_worth, worths-le, worths-by_link}

-- a link's value is at most a thousand times its cost less what its loads are worth
rated_value-le : (p : Parts) (cuts : List Cut) (ranges : List LoadRange) (prices rates : List ℕ) (d : Design) (e : ℕ) (value : ℤ) → IsDesign p d → IsFeasible p d → e < length p.links → AreInRange p ranges d e → IsRatedValue p cuts ranges prices rates e value
    → value ≤ℤ (pos (1000 * link_cost p d e) -ℤ pos (link_worth p cuts prices rates e (there_of p (load_at p d) e) (back_of p (load_at p d) e)))
rated_value-le p cuts ranges prices rates d e value design feasible within in_range is_value =
    let l = link_at p e in
    let load = there_of p (load_at p d) e in
    let back = back_of p (load_at p d) e in
    let carries = Carries-feasible p d e design feasible within in
    let found = least_cost-exists l (need p d e) (counts_at d e, carries) in
    let cheaper : found.0 ≤ module_cost_with l (counts_at d e) = found.1.least (counts_at d e) carries in
    let valued : value ≤ℤ (pos (1000 * (l.routing * (load + back) + found.0)) -ℤ pos (link_worth p cuts prices rates e load back)) =
    is_value.least load back (l.routing * (load + back) + found.0) in_range.there in_range.back (record { module_cost = found.0; is_least = found.1; is_sum = refl }) in
    within_value (l.routing * (load + back)) found.0 (module_cost_with l (counts_at d e)) (link_worth p cuts prices rates e load back) value cheaper valued
  where
    within_value : (routing cost module_cost priced : ℕ) (v : ℤ) → cost ≤ module_cost → v ≤ℤ (pos (1000 * (routing + cost)) -ℤ pos priced) → v ≤ℤ (pos (1000 * (routing + module_cost)) -ℤ pos priced)
    within_value routing cost module_cost priced v cheaper valued = omega (arith, ints)

total-le : (priced carried cost : ℕ) (values : ℤ) → priced ≤ carried → values ≤ℤ (pos (1000 * cost) -ℤ pos carried) → (pos priced +ℤ values) ≤ℤ (pos 1000 *ℤ pos cost)
total-le priced carried cost values le below = omega (arith, ints)

-- a bound with rates is at most the cost of each feasible design in the region
pub rated_bound-le-cost : (p : Parts) (cuts : List Cut) (g : Region) (prices rates : List ℕ) (bound : ℤ) (d : Design) → AreCuts p cuts → IsRatedBound p cuts g prices rates bound → IsDesign p d → IsFeasible p d → LiesWithin p d g → bound ≤ℤ pos (cost_of p d)
rated_bound-le-cost p cuts g prices rates bound d are is_bound design feasible lies =
    let n = length p.links in
    let worth = λ (e : ℕ). link_worth p cuts prices rates e (there_of p (load_at p d) e) (back_of p (load_at p d) e) in
    let priced : price_total p is_bound.least_prices + cut_total p cuts rates ≤ sum_below worth n =
    omega (arith, price_total-le p g.forbidden prices is_bound.least_prices d is_bound.are_least design lies.paths, worths-le p cuts prices rates d are design.paths, worths-by_link p cuts prices rates d) in
    let values = int_sum_below-le is_bound.values (λ e. 1000 * link_cost p d e) worth n
    (λ e within. rated_value-le p cuts g.ranges prices rates d e (is_bound.values e) design feasible within (loads-in_range p d g e within lies) (is_bound.are_values e within)) in
    let times : sum_below (λ e. 1000 * link_cost p d e) n ≡ 1000 * cost_of p d = sum_below-times 1000 (link_cost p d) n in
    is_bound.rounded.least (pos (cost_of p d)) (total-le (price_total p is_bound.least_prices + cut_total p cuts rates) (sum_below worth n) (cost_of p d) (int_sum_below is_bound.values n) priced (rw times at values))
