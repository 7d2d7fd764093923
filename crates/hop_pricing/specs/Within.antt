-- Least prices of paths of at most so many arcs, and the fewest arcs of a path. `least_within` and `fewest` have these words.
-- Prices and lengths are in thousandths of a cost grain per load grain; limits count arcs.
use Rattle.std.specs.Prelude.{ℕ, ◌≡◌, ◌≤◌, ⊤, List, length, Option, Some, None}
use Rattle.plan_base.specs.declared.ids.ArcId.{ArcId}
use Rattle.plan_base.specs.declared.parts.Parts.{Parts}
use Rattle.arc_restrict.specs.Restrictions.{Forbidden, IsPermittedPath, HasNoPath, IsFewest}
use Rattle.arc_restrict.specs.Prices.{price_of}
use Rattle.hop_pricing.specs.declared.within.Within.{Within}
use Rattle.hop_pricing.specs.declared.within.Within.TheVariants.{Path, Far}

-- a permitted path of the demand, of at most so many arcs
pub record IsPermittedWithin (p : Parts) (r : Forbidden) (k hops : ℕ) (arcs : List ArcId) : Type 0 where
  pub permitted : IsPermittedPath p r k arcs
  pub short : length arcs ≤ hops

-- such a path, of this price, and no such path has a lower one
pub record IsLeastWithin (p : Parts) (r : Forbidden) (prices : List ℕ) (k hops : ℕ) (arcs : List ArcId) (price : ℕ) : Type 0 where
  pub within : IsPermittedWithin p r k hops arcs
  pub price_is : price_of p prices arcs ≡ price
  pub least : (other : List ArcId) → IsPermittedWithin p r k hops other → price ≤ price_of p prices other

-- there is no such path
abbrev pub HasNoneWithin : Parts → Forbidden → ℕ → ℕ → Type 0
HasNoneWithin p r k hops = (arcs : List ArcId) → IsPermittedWithin p r k hops arcs → ⊥

-- the fewest arcs of a permitted path; none where no path is permitted
abbrev pub AreFewest : Parts → Forbidden → ℕ → Option ℕ → Type 0
AreFewest p r k None = HasNoPath p r k
AreFewest p r k (Some arcs) = IsFewest p r k arcs

-- what is found is so: a path has the least price within the limit; or none is within it, and the fewest arcs are told
abbrev pub IsFoundWithin : Parts → Forbidden → List ℕ → ℕ → ℕ → Within → Type 0
IsFoundWithin p r prices k hops (Path path price) = IsLeastWithin p r prices k hops path price
IsFoundWithin p r prices k hops (Far fewest) = HasNoneWithin p r k hops × AreFewest p r k fewest

-- what is found is that no permitted path is within the limit
abbrev pub FindsNone : Within → Type 0
FindsNone (Path path price) = ⊥
FindsNone (Far fewest) = ⊤

-- both are paths of the same price, or both tell the same fewest arcs
abbrev pub IsSameAnswer : Within → Within → Type 0
IsSameAnswer (Path path price) (Path other other_price) = price ≡ other_price
IsSameAnswer (Path path price) (Far fewest) = ⊥
IsSameAnswer (Far fewest) (Path path price) = ⊥
IsSameAnswer (Far fewest) (Far other) = fewest ≡ other
