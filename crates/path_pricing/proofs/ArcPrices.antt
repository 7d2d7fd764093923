-- The prices of arcs' places, as the weights of the arcs.
use Rattle.std.proofs.Common.{◌≡◌, ℕ, ◌+◌, ◌*◌, ◌≤◌, ◌<◌, List, [], ◌∷◌, ◌++◌, length, get_or, Option, Some, All, refl, sym, subst, arith}
use Rattle.std.specs.Option.{unwrap_or}
use Rattle.std.proofs.lemmas.List.{length_push}
use Rattle.std.proofs.lemmas.List.Elements.{All-push, All-nil}
use Rattle.plan_base.specs.declared.parts.Parts.{Parts}
use Rattle.plan_base.specs.Facts.{price_limit}
use Rattle.plan_base.proofs.PriceLaws.{price_limit_le}
use Rattle.least_path.specs.declared.limits.TheConstants.{MAX_WEIGHT}
use Rattle.least_path.specs.Paths.{AreWeights}
use Rattle.path_pricing.specs.Priced.{ArePrices}

-- the weight is within the limit
abbrev IsSmall : Option ℕ → Type 0
IsSmall w = unwrap_or w 0 ≤ MAX_WEIGHT

-- a weight for each of the first arcs, all within the limit
pub record ArePriced (arcs : ℕ) (weights : List (Option ℕ)) : Type 0 where
  pub count : length weights ≡ arcs
  pub small : All (λ w. unwrap_or w 0 ≤ MAX_WEIGHT) weights

-- before the first arc, an empty list has the weights
pub none_priced : (weights : List (Option ℕ)) → weights ≡ [] → ArePriced 0 weights
none_priced weights is = subst (ArePriced 0) (sym is) (record { count = refl; small = All-nil IsSmall })

-- the price of one arc more
pub one_priced : (p : Parts) (prices : List ℕ) (n q price : ℕ) (weights more : List (Option ℕ)) → ArePrices p prices → q < length prices → price ≡ get_or prices q 0
    → more ≡ weights ++ Some price ∷ [] → ArePriced n weights → ArePriced (n + 1) more
one_priced p prices n q price weights more fits within is_price is old =
    let most : price ≤ price_limit p = rw is_price (fits.within_limit q 0 within) in
    let limit = price_limit_le p in
    let small : IsSmall (Some price) = omega (arith, most, limit) in
    let count = length_push weights (Some price) in
    subst (ArePriced (n + 1)) (sym is) (record {
      count = omega (arith, old.count, count);
      small = All-push IsSmall weights (Some price) old.small small;
    })

-- the prices of all arcs
pub all_priced : (p : Parts) (n : ℕ) (weights : List (Option ℕ)) → n ≡ 2 * length p.links → ArePriced n weights → AreWeights p weights
all_priced p n weights end h = record { count = omega (arith, h.count, end); small = h.small }
