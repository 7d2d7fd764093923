-- Sums over places are sums over links.
use Rattle.std.proofs.Common.{◌≡◌, ℕ, zero, suc, ◌+◌, ◌*◌, ◌/◌, ◌<◌, ◌≤◌, ◌⊎◌, inl, inr, max, Bool, true, false, length, if◌then◌else◌, refl, ap, ◌∙◌, arith}
use Rattle.plan_base.specs.declared.parts.Parts.{Parts}
use Rattle.plan_base.specs.declared.limits.TheConstants.{MAX_PLACES}
use Rattle.plan_base.specs.Facts.{IsInstance}
use Rattle.plan_base.specs.Places.{is_two_way, places, link_of_place, there_of, back_of}
use Rattle.plan_base.specs.Sums.{sum_below}

-- a sum over twice as many numbers, two by two
by_twos : (f : ℕ → ℕ) (n : ℕ) → sum_below f (2 * n) ≡ sum_below (λ e. f (2 * e) + f (2 * e + 1)) n
by_twos f zero = refl
by_twos f (suc n) =
    let two : 2 * suc n ≡ suc (suc (2 * n)) = omega arith in
    let next : suc (2 * n) ≡ 2 * n + 1 = omega arith in
    let last : f (suc (2 * n)) ≡ f (2 * n + 1) = ap f next in
    ap (sum_below f) two ∙ omega (arith, by_twos f n, last)

plus_nothing : (f : ℕ → ℕ) (n : ℕ) → sum_below f n ≡ sum_below (λ e. f e + 0) n
plus_nothing f zero = refl
plus_nothing f (suc n) = omega (arith, plus_nothing f n)

-- a sum over all places, link by link
pub sum_places : (p : Parts) (f : ℕ → ℕ) → sum_below f (places p) ≡ sum_below (λ e. there_of p f e + back_of p f e) (length p.links)
sum_places p f = by_cases (is_two_way p.orient)
  where
    by_cases : (b : Bool) → sum_below f (if b then 2 * length p.links else length p.links)
        ≡ sum_below (λ e. f (if b then 2 * e else e) + (if b then f (2 * e + 1) else 0)) (length p.links)
    by_cases true = by_twos f (length p.links)
    by_cases false = plus_nothing f (length p.links)

-- two of a link's places are places
pub there-within : (p : Parts) (e : ℕ) → e < length p.links → (if is_two_way p.orient then 2 * e else e) < places p
there-within p e within = by_cases (is_two_way p.orient)
  where
    by_cases : (b : Bool) → (if b then 2 * e else e) < (if b then 2 * length p.links else length p.links)
    by_cases true = omega (arith, within)
    by_cases false = within

-- what is the same at each place is the same at a link's places
pub there-same : (p : Parts) (f g : ℕ → ℕ) (e : ℕ) → e < length p.links → ((q : ℕ) → q < places p → f q ≡ g q) → there_of p f e ≡ there_of p g e
there-same p f g e within same = same _ (there-within p e within)

-- the same for the way back over a link
pub back-same : (p : Parts) (f g : ℕ → ℕ) (e : ℕ) → e < length p.links → ((q : ℕ) → q < places p → f q ≡ g q) → back_of p f e ≡ back_of p g e
back-same p f g e within = by_cases (is_two_way p.orient)
  where
    by_cases : (b : Bool) → ((q : ℕ) → q < (if b then 2 * length p.links else length p.links) → f q ≡ g q) → (if b then f (2 * e + 1) else 0) ≡ (if b then g (2 * e + 1) else 0)
    by_cases true same = same (2 * e + 1) (omega (arith, within))
    by_cases false same = refl

-- an instance has few places
pub places-few : (p : Parts) → IsInstance p → places p ≤ MAX_PLACES
places-few p inst = by_cases (is_two_way p.orient)
  where
    by_cases : (b : Bool) → (if b then 2 * length p.links else length p.links) ≤ MAX_PLACES
    by_cases true = omega (arith, inst.link_count)
    by_cases false = omega (arith, inst.link_count)

-- what comes to a product at each place comes to the products at a link's places
pub back-times : (p : Parts) (f g : ℕ → ℕ) (e : ℕ) → back_of p (λ q. f q * g q) e ≡ back_of p f e * back_of p g e
back-times p f g e = by_cases (is_two_way p.orient)
  where
    by_cases : (b : Bool) → (if b then f (2 * e + 1) * g (2 * e + 1) else 0) ≡ (if b then f (2 * e + 1) else 0) * (if b then g (2 * e + 1) else 0)
    by_cases true = refl
    by_cases false = refl

-- the link of a place is one of the instance
pub link_of_place-within : (p : Parts) (q : ℕ) → q < places p → link_of_place p q < length p.links
link_of_place-within p q = by_cases (is_two_way p.orient)
  where
    by_cases : (b : Bool) → q < (if b then 2 * length p.links else length p.links) → (if b then q / 2 else q) < length p.links
    by_cases true within = omega arith
    by_cases false within = within

-- a place is one of its link's places
pub place-le-larger : (p : Parts) (f : ℕ → ℕ) (q : ℕ) → f q ≤ max (there_of p f (link_of_place p q)) (back_of p f (link_of_place p q))
place-le-larger p f q = by_cases (is_two_way p.orient)
  where
    even_or_odd : (n : ℕ) → (n ≡ 2 * (n / 2)) ⊎ (n ≡ 2 * (n / 2) + 1)
    even_or_odd n = grind arith

    by_cases : (b : Bool) → f q ≤ max (f (if b then 2 * (if b then q / 2 else q) else (if b then q / 2 else q))) (if b then f (2 * (if b then q / 2 else q) + 1) else 0)
    by_cases true = elim (even_or_odd q) [
      | inl even ↦ (let same : f q ≡ f (2 * (q / 2)) = ap f even in omega arith)
      | inr odd ↦ (let same : f q ≡ f (2 * (q / 2) + 1) = ap f odd in omega arith)
    ]
    by_cases false = omega arith
