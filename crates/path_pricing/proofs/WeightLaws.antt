-- The weights that a search is told: the price of each permitted arc, none for another.
use Rattle.std.proofs.Common.{◌≡◌, ℕ, zero, suc, ◌+◌, ◌*◌, ◌<◌, ◌≤◌, ◌⊎◌, inl, inr, Bool, true, false, List, [], ◌∷◌, ◌++◌, length, get_or, Option, Some, None, IsSome, refl, subst, ap, ◌∙◌, arith, add-one, sum_by}
use Rattle.std.specs.Option.{unwrap_or}
use Rattle.std.proofs.lemmas.List.{get_or_append_left, get_or_push, length_push}
use Rattle.std.proofs.lemmas.List.Elements.{All-from_get_or}
use Rattle.std.proofs.lemmas.List.Sums.{sum_by-cons}
use Rattle.plan_base.specs.declared.ids.ArcId.{ArcId}
use Rattle.plan_base.specs.declared.parts.Parts.{Parts}
use Rattle.plan_base.specs.Facts.{price_limit}
use Rattle.plan_base.specs.Places.{places, place_of}
use Rattle.plan_base.proofs.PathSums.{place-within}
use Rattle.plan_base.specs.Paths.{arc_at}
use Rattle.plan_base.proofs.Bools.{and-first}
use Rattle.plan_base.proofs.PriceLaws.{price_limit_le}
use Rattle.arc_restrict.specs.Restrictions.{Forbidden}
use Rattle.least_path.specs.declared.limits.TheConstants.{MAX_WEIGHT}
use Rattle.least_path.specs.Paths.{weight_at, AreWeights, IsUsable}
use Rattle.path_pricing.specs.Priced.{ArePrices, is_open, price_at}
use Rattle.path_pricing.specs.Faults.{arc_id}
use Rattle.path_pricing.specs.Weights.{open_price, weights_below}
use Rattle.path_pricing.proofs.PlaceLaws.{arc-within}

-- there are as many weights as arcs below the number
pub length-weights_below : (p : Parts) (prices : List ℕ) (k : ℕ) (r : Forbidden) (n : ℕ) → length (weights_below p prices k r n) ≡ n
length-weights_below p prices k r zero = refl
length-weights_below p prices k r (suc n) =
    let shorter = length-weights_below p prices k r n in
    let longer = length_push (weights_below p prices k r n) (open_price p prices k r (arc_id n)) in
    omega (arith, shorter, longer)

-- one arc more
pub weights_below-next : (p : Parts) (prices : List ℕ) (k : ℕ) (r : Forbidden) (n : ℕ) (before after : List (Option ℕ)) (w : Option ℕ) → before ≡ weights_below p prices k r n
    → w ≡ open_price p prices k r (arc_id n) → after ≡ before ++ w ∷ [] → after ≡ weights_below p prices k r (n + 1)
weights_below-next p prices k r n before after w before_is w_is after_is =
    rw add-one (after_is ∙ ap (λ (ws : List (Option ℕ)). ws ++ w ∷ []) before_is ∙ ap (λ (x : Option ℕ). weights_below p prices k r n ++ x ∷ []) w_is)

last_or_before : (i n : ℕ) → i < suc n → (i ≡ n) ⊎ (i < n)
last_or_before i n h = grind arith

-- the weight of the arc of a number
pub weights_below-at : (p : Parts) (prices : List ℕ) (k : ℕ) (r : Forbidden) (n i : ℕ) → i < n → get_or (weights_below p prices k r n) i None ≡ open_price p prices k r (arc_id i)
weights_below-at p prices k r zero i within = absurd (omega arith)
weights_below-at p prices k r (suc n) i within =
    let before = weights_below p prices k r n in
    let last = open_price p prices k r (arc_id n) in
    elim (last_or_before i n within) [
      | inl same ↦
          (let here : get_or (before ++ last ∷ []) n None ≡ last = get_or_push before last None n (length-weights_below p prices k r n) in
          rw same here)
      | inr below ↦
          (let count = length-weights_below p prices k r n in
          get_or_append_left before (last ∷ []) None i (omega (arith, count)) ∙ weights_below-at p prices k r n i below)
    ]

price_small : (p : Parts) (prices : List ℕ) (k : ℕ) (r : Forbidden) (a : ArcId) → ArePrices p prices → (b : Bool) → is_open p r k a ≡ b → unwrap_or (open_price p prices k r a) 0 ≤ MAX_WEIGHT
unfolding open_price
price_small p prices k r a fits true is =
    let inside : place_of p a < places p = place-within p a (and-first _ _ is) in
    let small : price_at p prices a ≤ price_limit p = fits.within_limit (place_of p a) 0 (omega (arith, fits.count)) in
    let limit = price_limit_le p in
    rw is (omega (arith, small, limit))
price_small p prices k r a fits false is = rw is (omega arith)

-- the weights of all arcs are weights that a search may have
pub AreWeights-weights_below : (p : Parts) (prices : List ℕ) (k : ℕ) (r : Forbidden) → ArePrices p prices → AreWeights p (weights_below p prices k r (2 * length p.links))
AreWeights-weights_below p prices k r fits =
    let ws = weights_below p prices k r (2 * length p.links) in
    let count = length-weights_below p prices k r (2 * length p.links) in
    record {
      count = count;
      small = All-from_get_or (λ w. unwrap_or w 0 ≤ MAX_WEIGHT) ws None (λ i within.
          rw (weights_below-at p prices k r (2 * length p.links) i (omega (arith, count))) (price_small p prices k r (arc_id i) fits (is_open p r k (arc_id i)) refl));
    }

-- a permitted arc has its price as weight
pub weights_below-open : (p : Parts) (prices : List ℕ) (k : ℕ) (r : Forbidden) (a : ArcId) → is_open p r k a ≡ true → get_or (weights_below p prices k r (2 * length p.links)) a.0 None ≡ Some (price_at p prices a)
unfolding open_price
weights_below-open p prices k r a is =
    weights_below-at p prices k r (2 * length p.links) a.0 (arc-within p a (and-first _ _ is)) ∙ rw is refl

-- a permitted arc is usable
pub IsUsable-open : (p : Parts) (prices : List ℕ) (k : ℕ) (r : Forbidden) (a : ArcId) → is_open p r k a ≡ true → IsUsable p (weights_below p prices k r (2 * length p.links)) a
IsUsable-open p prices k r a is = record {
  is_an_arc = and-first _ _ is;
  weighted = rw (weights_below-open p prices k r a is) refl;
}

-- a permitted arc weighs as much as its price
pub weight_at-open : (p : Parts) (prices : List ℕ) (k : ℕ) (r : Forbidden) (a : ArcId) → is_open p r k a ≡ true → weight_at (weights_below p prices k r (2 * length p.links)) a ≡ price_at p prices a
weight_at-open p prices k r a is = rw (weights_below-open p prices k r a is) refl

-- a usable arc is permitted
pub open-IsUsable : (p : Parts) (prices : List ℕ) (k : ℕ) (r : Forbidden) (a : ArcId) → IsUsable p (weights_below p prices k r (2 * length p.links)) a → is_open p r k a ≡ true
unfolding open_price
open-IsUsable p prices k r a usable = by_cases (is_open p r k a) refl
  where
    by_cases : (b : Bool) → is_open p r k a ≡ b → is_open p r k a ≡ true
    by_cases true is = is
    by_cases false is =
        let weight : get_or (weights_below p prices k r (2 * length p.links)) a.0 None ≡ None = weights_below-at p prices k r (2 * length p.links) a.0 (arc-within p a usable.is_an_arc) ∙ rw is refl in
        absurd (let bad : false ≡ true = subst (λ (x : Option ℕ). IsSome x) weight usable.weighted in cc)

-- equal terms have equal sums
pub sum_by-same : (f g : ArcId → ℕ) (arcs : List ArcId) → ((i : ℕ) → i < length arcs → f (arc_at arcs i) ≡ g (arc_at arcs i)) → sum_by f arcs ≡ sum_by g arcs
sum_by-same f g [] h = refl
sum_by-same f g (a ∷ arcs) h =
    let here : f a ≡ g a = h 0 (omega arith) in
    let rest = sum_by-same f g arcs (λ i within. h (suc i) (omega arith)) in
    let left = sum_by-cons f a arcs in
    let right = sum_by-cons g a arcs in
    omega (arith, here, rest, left, right)
