-- The prices of least columns are small.
use Rattle.std.proofs.Common.{◌≡◌, ℕ, ◌+◌, ◌*◌, ◌<◌, ◌≤◌, List, [], length, All, subst, arith}
use Rattle.std.proofs.lemmas.Option.{get_or_from_slice_get, slice_get_within}
use Rattle.std.proofs.lemmas.List.Elements.{All-from_get_or, All-filter}
use Rattle.plan_base.specs.declared.ids.ArcId.{ArcId}
use Rattle.plan_base.specs.declared.parts.Parts.{Parts}
use Rattle.plan_base.specs.declared.limits.TheConstants.{MAX_PRICED_LOAD}
use Rattle.plan_base.specs.Facts.{price_limit, IsInstance}
use Rattle.plan_base.specs.Sums.{sum_below}
use Rattle.plan_base.specs.Arcs.{demand_at}
use Rattle.plan_base.specs.Paths.{IsSimplePath}
use Rattle.arc_restrict.specs.Prices.{AreWithinLimit}
use Rattle.bound_assembly.specs.declared.limits.TheConstants.{MAX_PATH_LINKS}
use Rattle.bound_assembly.proofs.SmallSums.{priced_next}
use Rattle.master_step.specs.declared.source.Source.{Source}
use Rattle.master_step.specs.Columns.{least_column, least_price, HasColumns}
use Rattle.master_step.specs.Choosing.{all_of, is_allowed, allowed_of, IsSource}
use Rattle.master_step.proofs.LeastColumns.{first_least}
use Rattle.master_step.proofs.SmallPrices.{path-le}

-- the price of a demand's least column is at most that of as many arcs as a path may have, each at the limit
pub small_price : (p : Parts) (source : Source) (prices : List ℕ) (k : ℕ) → IsInstance p → AreWithinLimit p prices → IsSource p source → HasColumns p (allowed_of source) → k < length p.demands
    → least_price p prices (allowed_of source k) ≤ MAX_PATH_LINKS * price_limit p
small_price p source prices k inst within is has below =
    let least = first_least p prices (allowed_of source k) (has k below) in
    let all : All (λ path. IsSimplePath p (demand_at p k) path) (all_of source k) = All-from_get_or (λ path. IsSimplePath p (demand_at p k) path) (all_of source k) [] (λ i here. is.simple k i below here) in
    let allowed : All (λ path. IsSimplePath p (demand_at p k) path) (allowed_of source k) = All-filter (is_allowed source k) (λ path. IsSimplePath p (demand_at p k) path) (all_of source k) all in
    let simple : IsSimplePath p (demand_at p k) (least_column p prices (allowed_of source k)) =
    subst (λ (path : List ArcId). IsSimplePath p (demand_at p k) path) (get_or_from_slice_get (allowed_of source k) least.place (least_column p prices (allowed_of source k)) [] least.is_path)
    (allowed least.place [] (slice_get_within (allowed_of source k) least.place (least_column p prices (allowed_of source k)) least.is_path)) in
    path-le p k prices (least_column p prices (allowed_of source k)) inst below within simple

-- loads times the prices of least columns of the first demands, and of one demand more
pub least_next : (p : Parts) (source : Source) (prices : List ℕ) (k load paid total : ℕ) → IsInstance p → AreWithinLimit p prices → IsSource p source → HasColumns p (allowed_of source) → k < length p.demands
    → total ≡ sum_below (λ i. (demand_at p i).load * least_price p prices (allowed_of source i)) k → load ≡ (demand_at p k).load → paid ≡ least_price p prices (allowed_of source k) → total + load * paid ≤ MAX_PATH_LINKS * MAX_PRICED_LOAD
least_next p source prices k load paid total inst within is has below sum is_load is_paid =
    priced_next p (λ i. least_price p prices (allowed_of source i)) k load paid total below (λ i before. small_price p source prices i inst within is has (omega (arith, before, below))) sum is_load is_paid
