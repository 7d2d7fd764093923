-- What becomes of least paths within limits. `paths_within` has these words.
-- Prices are in thousandths of a cost grain per load grain; limits count arcs.
use Rattle.std.specs.Prelude.{ℕ, ◌≡◌, ◌<◌, ◌⊎◌, List, length, IfSome, IsSomeAnd}
use Rattle.plan_base.specs.declared.ids.ArcId.{ArcId}
use Rattle.plan_base.specs.declared.parts.Parts.{Parts}
use Rattle.plan_base.specs.Arcs.{demand_at}
use Rattle.plan_base.specs.Designs.{path_at}
use Rattle.arc_restrict.specs.Restrictions.{Forbidden}
use Rattle.arc_restrict.specs.Prices.{price_of}
use Rattle.completions.specs.Completions.{with_paths}
use Rattle.hop_pricing.specs.Within.{IsLeastWithin, HasNoneWithin}

-- the path has more arcs than the demand's limit; the other one is permitted and within it, and no such path costs less
abbrev pub IsShortenedTo : Parts → Forbidden → List ℕ → ℕ → List ArcId → List ArcId → Type 0
IsShortenedTo p r prices k path other = IsSomeAnd (demand_at p k).hops (λ limit. (limit < length path) × IsLeastWithin p r prices k limit other (price_of p prices other))

-- the path keeps the demand's limit, if there is one, or no permitted path does
abbrev pub MayStay : Parts → Forbidden → ℕ → List ArcId → Type 0
MayStay p r k path = IfSome (demand_at p k).hops (λ limit. limit < length path → HasNoneWithin p r k limit)

-- what a path becomes: a shorter one, or the same where it may stay
abbrev pub IsFitted : Parts → Forbidden → List ℕ → ℕ → List ArcId → List ArcId → Type 0
IsFitted p r prices k path fitted = IsShortenedTo p r prices k path fitted ⊎ ((fitted ≡ path) × MayStay p r k path)

-- the same of the path of each demand
abbrev pub AreFitted : Parts → Forbidden → List ℕ → List (List ArcId) → List (List ArcId) → Type 0
AreFitted p r prices paths fitted = (k : ℕ) → k < length p.demands
    → IsFitted p r prices k (path_at (with_paths paths) k) (path_at (with_paths fitted) k)

-- each demand with a limit has a permitted path within it
abbrev pub HavePathsWithin : Parts → Forbidden → Type 0
HavePathsWithin p r = (k : ℕ) → k < length p.demands → IfSome (demand_at p k).hops (λ limit. HasNoneWithin p r k limit → ⊥)
