-- The price of a path so far, and how large it may be.
use Rattle.std.proofs.Common.{◌≡◌, ℕ, ◌+◌, ◌<◌, ◌≤◌, List, length, get_or, take, slice_index, All}
use Rattle.std.proofs.lemmas.List.Sums.{sum_by_more}
use Rattle.plan_base.specs.declared.ids.ArcId.{ArcId}
use Rattle.plan_base.specs.declared.limits.TheConstants.{MAX_PRICED_LOAD}
use Rattle.plan_base.specs.declared.parts.Parts.{Parts}
use Rattle.plan_base.specs.Places.{place_of}
use Rattle.arc_restrict.specs.Prices.{price_of}
use Rattle.path_pricing.specs.Priced.{price_at}

-- the arc's place has a price
pub place-priced : (p : Parts) (prices : List ℕ) (arcs : List ArcId) (i : ℕ) (d : ArcId) → All (λ (a : ArcId). place_of p a < length prices) arcs → i < length arcs → place_of p (get_or arcs i d) < length prices
place-priced p prices arcs i d h within = h i d within

-- a price is small
pub price-small : (p : Parts) (prices : List ℕ) (a : ArcId) → All (λ (price : ℕ). price ≤ MAX_PRICED_LOAD) prices → place_of p a < length prices → price_at p prices a ≤ MAX_PRICED_LOAD
price-small p prices a h within = h (place_of p a) 0 within

-- one arc more
pub price-next : (p : Parts) (prices : List ℕ) (arcs : List ArcId) (i : ℕ) (d : ArcId) → i < length arcs → price_of p prices (take (i + 1) arcs) ≡ price_of p prices (take i arcs) + price_at p prices (get_or arcs i d)
price-next p prices arcs i d within = sum_by_more (λ (a : ArcId). slice_index prices (place_of p a)) arcs i d within

-- the price of a path so far: each arc's place has a price, it is small, and it is added with the arc
pub ruleset price_sums = (place-priced, price-small, price-next)
