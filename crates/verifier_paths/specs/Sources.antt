-- Least prices of all demands, and the ways from a source where nothing is forbidden.
use Rattle.std.specs.Prelude.{ℕ, ◌≡◌, ◌<◌, ◌≤◌, ◌*◌, List, length, Option, None, IfSome, MatchOption}
use Rattle.plan_base.specs.declared.parts.Parts.{Parts}
use Rattle.plan_base.specs.declared.limits.TheConstants.{MAX_PRICED_LOAD}
use Rattle.plan_base.specs.Facts.{total_load}
use Rattle.plan_base.specs.Arcs.{demand_at}
use Rattle.arc_restrict.specs.Restrictions.{Forbidden, none_forbidden, HasNoPath}
use Rattle.arc_restrict.specs.Prices.{price_of, IsLeastPrice}
use Rattle.verifier_paths.specs.declared.limits.TheConstants.{MAX_WAY_ARCS}
use Rattle.verifier_paths.specs.Labels.{label_at, may_take, AreLeast}

-- the least price of a permitted path of the demand, or none where it has no path
pub record IsPriceOf (p : Parts) (r : Forbidden) (prices : List ℕ) (k : ℕ) (found : Option ℕ) : Type 0 where
  pub is_least : MatchOption found (HasNoPath p r k) (λ price. IsLeastPrice p r prices k price)
  pub is_small : IfSome found (λ price. price * total_load p ≤ MAX_WAY_ARCS * MAX_PRICED_LOAD)

-- the least price of each demand
pub record ArePricesOf (p : Parts) (r : Forbidden) (prices : List ℕ) (found : List (Option ℕ)) : Type 0 where
  pub count : length found ≡ length p.demands
  pub each : (k : ℕ) → k < length p.demands → IsPriceOf p r prices k (label_at found k)

-- each node has the least price of the ways to it from the demand's source, where nothing is forbidden
abbrev pub AreUnrestricted : Parts → List ℕ → ℕ → List (Option ℕ) → Type 0
AreUnrestricted p prices k labels = AreLeast p (may_take p none_forbidden k None) (price_of p prices) (demand_at p k).source.0 labels

-- the demand's source is this node
abbrev pub IsFrom : Parts → ℕ → ℕ → Type 0
IsFrom p source k = (demand_at p k).source.0 ≡ source

-- the prices of the demands of this source are found, and what was found before is still there
pub record HasPriced (p : Parts) (r : Forbidden) (prices : List ℕ) (source : ℕ) (before after : List (Option ℕ)) : Type 0 where
  pub count : length after ≡ length before
  pub kept : (k : ℕ) → k < length p.demands → IsPriceOf p r prices k (label_at before k) → IsPriceOf p r prices k (label_at after k)
  pub found : (k : ℕ) → k < length p.demands → IsFrom p source k → IsPriceOf p r prices k (label_at after k)
