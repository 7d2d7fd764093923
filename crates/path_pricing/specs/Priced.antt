-- What is found for a demand, and what it shows. Prices, lengths and potentials are in thousandths of a cost grain per load grain.
use Rattle.std.specs.Prelude.{ℕ, ◌≡◌, ◌≤◌, ◌+◌, Bool, false, not, ◌&&◌, List, length, slice_index, slice_index_or, IsTrue}
use Rattle.plan_base.specs.declared.ids.NodeId.{NodeId}
use Rattle.plan_base.specs.declared.ids.ArcId.{ArcId}
use Rattle.plan_base.specs.declared.parts.Parts.{Parts}
use Rattle.plan_base.specs.Arcs.{is_arc, tail_of, head_of, demand_at}
use Rattle.plan_base.specs.Places.{places, place_of}
use Rattle.arc_restrict.specs.Restrictions.{Forbidden, IsPermittedPath, HasNoPath}
use Rattle.arc_restrict.specs.Prices.{AreWithinLimit, price_of, IsLeastPrice}
use Rattle.path_pricing.specs.declared.priced.Priced.{Priced}
use Rattle.path_pricing.specs.declared.priced.Priced.TheVariants.{Path, NoPath}

-- a price for each place at least, and no number above the price limit: behind the prices there may be rates
pub record ArePrices (p : Parts) (prices : List ℕ) : Type 0 where
  pub count : places p ≤ length prices
  pub within_limit : AreWithinLimit p prices

-- the arc exists and is not forbidden to the demand of this number
abbrev pub is_open : Parts → Forbidden → ℕ → ArcId → Bool
is_open p r k a = is_arc p a && not (r k a)

-- the price of the arc's place
abbrev pub price_at : Parts → List ℕ → ArcId → ℕ
price_at p prices a = slice_index prices (place_of p a)

-- the potential of the node
abbrev pub potential_at : List ℕ → NodeId → ℕ
potential_at potentials node = slice_index potentials node.0

-- the set holds the node
abbrev pub holds : List Bool → NodeId → Bool
holds reached node = slice_index_or reached node.0 false

-- one potential for each node: 0 at the demand's source, the price at its target, and no permitted arc's head is above its tail by more than the arc's price
pub record ArePotentials (p : Parts) (prices : List ℕ) (k : ℕ) (r : Forbidden) (price : ℕ) (potentials : List ℕ) : Type 0 where
  pub count : length potentials ≡ p.nodes
  pub at_source : potential_at potentials (demand_at p k).source ≡ 0
  pub at_target : potential_at potentials (demand_at p k).target ≡ price
  pub along : (a : ArcId) → IsTrue (is_open p r k a)
      → potential_at potentials (head_of p a) ≤ potential_at potentials (tail_of p a) + price_at p prices a

-- a permitted path of the demand with this price, and potentials that rise to the price
pub record IsShownPath (p : Parts) (prices : List ℕ) (k : ℕ) (r : Forbidden) (path : List ArcId) (price : ℕ) (potentials : List ℕ) : Type 0 where
  pub permitted : IsPermittedPath p r k path
  pub price_is : price_of p prices path ≡ price
  pub potentials_rise : ArePotentials p prices k r price potentials

-- one entry for each node; the set holds the demand's source and not its target, and no permitted arc leaves it
pub record IsClosedSet (p : Parts) (k : ℕ) (r : Forbidden) (reached : List Bool) : Type 0 where
  pub count : length reached ≡ p.nodes
  pub source : IsTrue (holds reached (demand_at p k).source)
  pub target : holds reached (demand_at p k).target ≡ false
  pub closed : (a : ArcId) → IsTrue (is_open p r k a) → IsTrue (holds reached (tail_of p a)) → IsTrue (holds reached (head_of p a))

-- what is found has with it what shows it
abbrev pub IsShown : Parts → List ℕ → ℕ → Forbidden → Priced → Type 0
IsShown p prices k r (Path path price potentials) = IsShownPath p prices k r path price potentials
IsShown p prices k r (NoPath reached) = IsClosedSet p k r reached

-- a permitted path of the demand with this price, which is the least price
pub record IsLeastPath (p : Parts) (prices : List ℕ) (k : ℕ) (r : Forbidden) (path : List ArcId) (price : ℕ) : Type 0 where
  pub permitted : IsPermittedPath p r k path
  pub price_is : price_of p prices path ≡ price
  pub least : IsLeastPrice p r prices k price

-- what is found is so: the path is a least one, or there is no permitted path
abbrev pub IsPriced : Parts → List ℕ → ℕ → Forbidden → Priced → Type 0
IsPriced p prices k r (Path path price potentials) = IsLeastPath p prices k r path price
IsPriced p prices k r (NoPath reached) = HasNoPath p r k
