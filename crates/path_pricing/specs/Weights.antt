-- What a search is told of arcs.
use Rattle.std.specs.Prelude.{ℕ, zero, suc, List, [], ◌∷◌, ◌++◌, Option, Some, None, if◌then◌else◌}
use Rattle.plan_base.specs.declared.ids.ArcId.{ArcId}
use Rattle.plan_base.specs.declared.parts.Parts.{Parts}
use Rattle.arc_restrict.specs.Restrictions.{Forbidden}
use Rattle.least_path.specs.declared.answer.Search.{Search}
use Rattle.least_path.specs.declared.answer.Search.TheVariants as searched
use Rattle.path_pricing.specs.declared.priced.Priced.{Priced}
use Rattle.path_pricing.specs.declared.priced.Priced.TheVariants as priced
use Rattle.path_pricing.specs.Priced.{is_open, price_at}
use Rattle.path_pricing.specs.Faults.{arc_id}

-- the price of a permitted arc, none for another
unfoldable pub open_price : Parts → List ℕ → ℕ → Forbidden → ArcId → Option ℕ
open_price p prices k r a = if is_open p r k a then Some (price_at p prices a) else None

-- one weight for each of the arcs 0 to n - 1
abbrev pub weights_below : Parts → List ℕ → ℕ → Forbidden → ℕ → List (Option ℕ)
weights_below p prices k r zero = []
weights_below p prices k r (suc n) = weights_below p prices k r n ++ open_price p prices k r (arc_id n) ∷ []

-- what a search found, as what is found for a demand
abbrev pub priced_of : Search → Priced
priced_of (searched.Path path price potentials) = priced.Path path price potentials
priced_of (searched.NoPath reached) = priced.NoPath reached
