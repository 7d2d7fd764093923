-- What a round shows of a region, where each length that was put is the least price of its demand there.
use Rattle.std.proofs.Common.{◌≡◌, ℕ, ◌*◌, ◌<◌, ◌≤◌, List, length, Option, Some, None, true, false, refl, arith}
use Rattle.std.specs.Prelude.{ℤ, ◌↔◌}
use Rattle.std.proofs.Math.Nat.{mul-le-mul_left}
use Rattle.plan_base.specs.declared.parts.Parts.{Parts}
use Rattle.plan_base.specs.Arcs.{demand_at}
use Rattle.plan_base.proofs.SumsBelow.{sum_below-le}
use Rattle.arc_restrict.specs.Prices.{AreWithinLimit, IsLeastPrice}
use Rattle.link_steps.specs.declared.range.LoadRange.{LoadRange}
use Rattle.proof_tree.specs.declared.cuts.Cut.{Cut}
use Rattle.proof_tree.specs.Regions.{Region}
use Rattle.proof_tree.specs.Bounds.{AreLeastPrices}
use Rattle.proof_tree.specs.Evidence.{ClosedByCrowd}
use Rattle.proof_tree.specs.RatedEvidence.{IsBoundAt}
use Rattle.bound_assembly.specs.Rounds.{length_at, HasLength, left_in}
use Rattle.bound_assembly.proofs.Gaps.{left-none}
use Rattle.bound_assembly.specs.RoundBounds.{length_of, AreLeastLengths, IsRoundBound, IsRoundCrowd}

-- where a round crowds the links, no demand is left
pub crowd_full : (p : Parts) (ranges : List LoadRange) (prices : List ℕ) (lengths : List (Option ℕ)) → IsRoundCrowd p ranges prices lengths → length lengths ≡ length p.demands → left_in lengths ≡ 0
crowd_full p ranges prices lengths is same = left-none lengths (λ k below. is.complete k (omega arith))

module _ (p : Parts) (g : Region) (prices : List ℕ) (lengths : List (Option ℕ)) where
  -- the lengths of all demands are their least prices
  pub are_least_prices : ((k : ℕ) → k < length p.demands → HasLength lengths k) → AreLeastLengths p g.forbidden prices lengths → AreLeastPrices p g.forbidden prices (length_of lengths)
  are_least_prices complete least k below = by_cases (length_at lengths k) refl (complete k below)
    where
      by_cases : (found : Option ℕ) → length_at lengths k ≡ found → HasLength lengths k → IsLeastPrice p g.forbidden prices k (length_of lengths k)
      by_cases None is has = absurd (let bad : false ≡ true = rw is at has in cc)
      by_cases (Some price) is has = rw is (least k price below is)

  -- a round that crowds the links closes a leaf of the region
  pub round_crowd-closed : AreWithinLimit p prices → AreLeastLengths p g.forbidden prices lengths → IsRoundCrowd p g.ranges prices lengths → ClosedByCrowd p g prices
  round_crowd-closed within least is =
      record { within_limit = within; free = is.free; least_prices = length_of lengths; are_least = are_least_prices is.complete least; crowded = is.crowded }

  -- prices that close a leaf of the region crowd the links
  pub closed-round_crowd : ((k : ℕ) → k < length p.demands → HasLength lengths k) → AreLeastLengths p g.forbidden prices lengths → ClosedByCrowd p g prices → IsRoundCrowd p g.ranges prices lengths
  closed-round_crowd complete least is =
      let mine = are_least_prices complete least in
      let each : (k : ℕ) → k < length p.demands → (demand_at p k).load * is.least_prices k ≤ (demand_at p k).load * length_of lengths k = λ k below.
      (let mine_k = mine k below in
      let lower : is.least_prices k ≤ length_of lengths k = omega (arith, (is.are_least k below).least mine_k.path mine_k.permitted, mine_k.attained) in
      mul-le-mul_left (demand_at p k).load lower) in
      let total = sum_below-le (λ k. (demand_at p k).load * is.least_prices k) (λ k. (demand_at p k).load * length_of lengths k) (length p.demands) each in
      record { complete = complete; free = is.free; crowded = omega (arith, total, is.crowded) }

  -- lengths that are least prices crowd a round exactly where the prices close a leaf of the region
  pub round_crowd-both : AreWithinLimit p prices → ((k : ℕ) → k < length p.demands → HasLength lengths k) → AreLeastLengths p g.forbidden prices lengths → IsRoundCrowd p g.ranges prices lengths ↔ ClosedByCrowd p g prices
  round_crowd-both within complete least = (round_crowd-closed within least, closed-round_crowd complete least)

-- a round's bound is the bound of the region
pub round_bound-bound : (p : Parts) (cuts : List Cut) (g : Region) (numbers : List ℕ) (lengths : List (Option ℕ)) (bound : ℤ)
    → AreLeastLengths p g.forbidden numbers lengths → IsRoundBound p cuts g.ranges numbers lengths bound → IsBoundAt p cuts g numbers bound
round_bound-bound p cuts g numbers lengths bound least is =
    record { least_prices = length_of lengths; values = is.values; are_least = are_least_prices p g numbers lengths is.complete least; are_values = is.are_values; rounded = is.rounded }
