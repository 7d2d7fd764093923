-- What start numbers are, and their bound.
use Rattle.std.proofs.Common.{◌≡◌, ℕ, ◌+◌, ◌<◌, ◌≤◌, List, ◌++◌, length, take, replicate, slice_index, if◌then◌else◌, sym, ap, subst, ◌∙◌, arith}
use Rattle.std.specs.Prelude.{◌↔◌, ℤ}
use Rattle.std.proofs.lemmas.List.{take_at, length-append, length-replicate, get_or-take, get_or-append-add, get_or-replicate}
use Rattle.std.proofs.lemmas.List.Elements.{All-append, All-replicate}
use Rattle.plan_base.specs.declared.ids.ArcId.{ArcId}
use Rattle.plan_base.specs.declared.parts.Parts.{Parts}
use Rattle.plan_base.specs.Facts.{price_limit}
use Rattle.plan_base.specs.Arcs.{demand_at}
use Rattle.plan_base.specs.Places.{places, there_of, back_of}
use Rattle.plan_base.specs.Paths.{uses_place}
use Rattle.plan_base.proofs.SumsBelow.{sum_below-same}
use Rattle.plan_base.proofs.PlaceSums.{there-same, back-same}
use Rattle.link_steps.specs.Values.{ranges_of_link, IsLinkValue, AreStartPrices}
use Rattle.arc_restrict.specs.Restrictions.{Forbidden, IsPermittedPath}
use Rattle.arc_restrict.specs.Prices.{price_of, IsLeastPrice, AreWithinLimit}
use Rattle.arc_restrict.proofs.PathPrices.{price_of-places}
use Rattle.proof_tree.specs.declared.cuts.Cut.{Cut}
use Rattle.proof_tree.specs.Regions.{Region, whole}
use Rattle.proof_tree.specs.Bounds.{IsBound, IsOpeningBound}
use Rattle.proof_tree.specs.RatedEvidence.{IsBoundAt}
use Rattle.cut_values.specs.Numbers.{AreNumbers, AreStartNumbers}
use Rattle.cut_values.proofs.NoRates.{lawful-within, bound-alone, bound-rated}

module _ (p : Parts) (one other : List ℕ) (same : (q : ℕ) → q < places p → slice_index one q ≡ slice_index other q) where
  price_of-same : (k : ℕ) (r : Forbidden) (arcs : List ArcId) → IsPermittedPath p r k arcs → price_of p one arcs ≡ price_of p other arcs
  price_of-same k r arcs is =
      price_of-places p (demand_at p k) one arcs is.simple
      ∙ (sum_below-same (λ q. if uses_place p q arcs then slice_index one q else 0) (λ q. if uses_place p q arcs then slice_index other q else 0) (places p)
      (λ q below. ap (λ (n : ℕ). if uses_place p q arcs then n else 0) (same q below))
      ∙ sym (price_of-places p (demand_at p k) other arcs is.simple))

  least_price-same : (r : Forbidden) (k price : ℕ) → IsLeastPrice p r one k price → IsLeastPrice p r other k price
  least_price-same r k price is = record {
    path = is.path;
    permitted = is.permitted;
    attained = sym (price_of-same k r is.path is.permitted) ∙ is.attained;
    least = λ arcs permitted. subst (λ (n : ℕ). price ≤ n) (price_of-same k r arcs permitted) (is.least arcs permitted);
  }

  -- a bound at prices alone is one at those that are the same at all places
  pub bound-places : (g : Region) (bound : ℤ) → IsBound p g one bound → IsBound p g other bound
  bound-places g bound h = record {
    least_prices = h.least_prices;
    values = h.values;
    are_least = λ k below. least_price-same g.forbidden k (h.least_prices k) (h.are_least k below);
    are_values = λ e below.
        subst (λ (n : ℕ). IsLinkValue p e (ranges_of_link p g.ranges e) n (back_of p (slice_index other) e) (h.values e)) (there-same p (slice_index one) (slice_index other) e below same)
        (subst (λ (n : ℕ). IsLinkValue p e (ranges_of_link p g.ranges e) (there_of p (slice_index one) e) n (h.values e)) (back-same p (slice_index one) (slice_index other) e below same) (h.are_values e below));
    rounded = h.rounded;
  }

-- start prices with rates of 0 behind them are start numbers
pub starts-numbers : (p : Parts) (cuts : List Cut) (prices : List ℕ) → AreStartPrices p prices → AreStartNumbers p cuts (prices ++ replicate (length cuts) 0)
starts-numbers p cuts prices start = record {
  count = omega (arith, length-append prices (replicate (length cuts) 0), length-replicate {A = ℕ} (length cuts) 0, start.count);
  prices = subst (λ (list : List ℕ). AreStartPrices p list) (sym (take_at prices (replicate (length cuts) 0) (places p) start.count)) start;
  rates = λ i below.
      ap (λ (n : ℕ). slice_index (prices ++ replicate (length cuts) 0) (n + i)) (sym start.count) ∙ (get_or-append-add prices (replicate (length cuts) 0) i 0 ∙ get_or-replicate (length cuts) i 0 0 below);
}

-- start numbers within the limit are as numbers have to be
pub starts-lawful : (p : Parts) (cuts : List Cut) (numbers : List ℕ) → AreStartNumbers p cuts numbers → AreWithinLimit p numbers → AreNumbers p cuts numbers
starts-lawful p cuts numbers start within = record { count = start.count; lawful = lawful-within p cuts numbers start.rates within }

-- no start price and no rate of 0 is above the limit
pub starts-within : (p : Parts) (prices : List ℕ) (n : ℕ) → AreWithinLimit p prices → AreWithinLimit p (prices ++ replicate n 0)
starts-within p prices n within = All-append (λ (m : ℕ). m ≤ price_limit p) prices (replicate n 0) within (All-replicate (λ (m : ℕ). m ≤ price_limit p) n 0 (omega arith))

-- the bound at start numbers is that at their prices
pub starts-bound : (p : Parts) (cuts : List Cut) (numbers : List ℕ) (g : Region) (bound : ℤ) → AreStartNumbers p cuts numbers → IsBoundAt p cuts g numbers bound ↔ IsBound p g (take (places p) numbers) bound
starts-bound p cuts numbers g bound start = (
  λ h. bound-places p numbers (take (places p) numbers) (λ q below. sym (get_or-take (places p) numbers q 0 below)) g bound (bound-alone p cuts numbers start.rates g bound h),
  λ h. bound-rated p cuts numbers start.rates g bound (bound-places p (take (places p) numbers) numbers (λ q below. get_or-take (places p) numbers q 0 below) g bound h),
)

-- so at the whole region it is the opening bound
pub starts-opening : (p : Parts) (cuts : List Cut) (numbers : List ℕ) (bound : ℤ) → AreStartNumbers p cuts numbers → IsBoundAt p cuts (whole p) numbers bound → IsOpeningBound p bound
starts-opening p cuts numbers bound start h = record { prices = take (places p) numbers; are_start = start.prices; is_bound = (starts-bound p cuts numbers (whole p) bound start).0 h }
