-- What the loads of places are worth, cut by cut and link by link.
use Rattle.std.proofs.Common.{◌≡◌, ℕ, zero, suc, ◌+◌, ◌*◌, ◌≤◌, Bool, true, false, List, [], length, slice_index, if◌then◌else◌, refl, sym, ap, ◌∙◌, arith}
use Rattle.std.specs.List.{sum_by}
use Rattle.std.proofs.Math.Nat.{mul-le-mul_left}
use Rattle.std.proofs.lemmas.List.Sums.{sum_by_push}
use Rattle.plan_base.specs.declared.parts.Parts.{Parts}
use Rattle.plan_base.specs.declared.path.Design.{Design}
use Rattle.plan_base.specs.Sums.{sum_below}
use Rattle.plan_base.specs.Places.{is_two_way, places, there_of, back_of}
use Rattle.plan_base.specs.Designs.{load_at}
use Rattle.plan_base.proofs.PlaceSums.{sum_places}
use Rattle.plan_base.proofs.SumsBelow.{sum_below-same, sum_below-le, sum_below-times, sum_below-swap, sum_below-plus}
use Rattle.link_steps.specs.declared.rated.Rated.{Rated}
use Rattle.link_steps.specs.Tallies.{part, worth}
use Rattle.link_steps.proofs.TallyLaws.{part-rise}
use Rattle.proof_tree.specs.declared.cuts.Cut.{Cut}
use Rattle.proof_tree.specs.Cuts.{place_crosses, batch_of, counted_at, least_count, cut_at, IsCut, AreCuts}
use Rattle.proof_tree.specs.RatedBounds.{with_rated, rated_before, rated_on, rated_there, rated_back, cut_total}
use Rattle.proof_tree.proofs.Crossings.{HasSimplePaths}
use Rattle.proof_tree.proofs.CutLaws.{cut-holds}

-- the rates times what the cuts of a list count of a load
abbrev pub rated_sum : List Rated → ℕ → ℕ
rated_sum list x = sum_by (λ (r : Rated). r.rate * part r.batch x) list

-- a sum over the cuts that a place crosses is one over all cuts
rated-sum : (p : Parts) (cuts : List Cut) (rates : List ℕ) (q x n : ℕ) → rated_sum (rated_before p cuts rates q n) x ≡ sum_below (λ i. slice_index rates i * counted_at p (cut_at cuts i) q x) n
rated-sum p cuts rates q x zero = refl
rated-sum p cuts rates q x (suc n) =
    more (place_crosses p (cut_at cuts n).nodes q) (rated_before p cuts rates q n) (record { batch = batch_of p (cut_at cuts n) q; rate = slice_index rates n }) _ (rated-sum p cuts rates q x n)
  where
    more : (b : Bool) (list : List Rated) (here : Rated) (sum : ℕ) → rated_sum list x ≡ sum → rated_sum (with_rated b list here) x ≡ sum + here.rate * (if b then part here.batch x else 0)
    more true list here sum before = sum_by_push (λ (r : Rated). r.rate * part r.batch x) list here ∙ ap (λ (m : ℕ). m + here.rate * part here.batch x) before
    more false list here sum before = omega (arith, before)

-- what a load on a place is worth
abbrev pub place_worth : Parts → List Cut → List ℕ → List ℕ → ℕ → ℕ → ℕ
place_worth p cuts prices rates q x = worth (slice_index prices q) (rated_on p cuts rates q) x

-- what the loads on a link's places are worth
abbrev pub link_worth : Parts → List Cut → List ℕ → List ℕ → ℕ → ℕ → ℕ → ℕ
link_worth p cuts prices rates e load back = worth (there_of p (slice_index prices) e) (rated_there p cuts rates e) load + worth (back_of p (slice_index prices) e) (rated_back p cuts rates e) back

-- the rates times what the cuts count at least are at most the rates times what they count in the design
cut_total-le : (p : Parts) (cuts : List Cut) (rates : List ℕ) (d : Design) → AreCuts p cuts → HasSimplePaths p d
    → cut_total p cuts rates ≤ sum_below (λ q. sum_below (λ i. slice_index rates i * counted_at p (cut_at cuts i) q (load_at p d q)) (length cuts)) (places p)
cut_total-le p cuts rates d are simple =
    let m = length cuts in
    let n = places p in
    let each = sum_below-le (λ i. slice_index rates i * least_count p (cut_at cuts i)) (λ i. sum_below (λ q. slice_index rates i * counted_at p (cut_at cuts i) q (load_at p d q)) n) m
    (λ i below.
    (let is : IsCut p (cut_at cuts i) = are i below in
    let holds = mul-le-mul_left (slice_index rates i) (cut-holds p (cut_at cuts i) d is.is_tally simple) in
    let times = sum_below-times (slice_index rates i) (λ q. counted_at p (cut_at cuts i) q (load_at p d q)) n in
    omega (arith, holds, times))) in
    let swapped = sum_below-swap (λ i q. slice_index rates i * counted_at p (cut_at cuts i) q (load_at p d q)) m n in
    omega (arith, each, swapped)

-- the places' loads at their prices, and the rates times what the cuts count at least, are at most what the loads are worth
pub worths-le : (p : Parts) (cuts : List Cut) (prices rates : List ℕ) (d : Design) → AreCuts p cuts → HasSimplePaths p d
    → sum_below (λ q. slice_index prices q * load_at p d q) (places p) + cut_total p cuts rates ≤ sum_below (λ q. place_worth p cuts prices rates q (load_at p d q)) (places p)
worths-le p cuts prices rates d are simple =
    let n = places p in
    let counted = λ (q : ℕ). sum_below (λ i. slice_index rates i * counted_at p (cut_at cuts i) q (load_at p d q)) (length cuts) in
    let cut = cut_total-le p cuts rates d are simple in
    let plus = sum_below-plus (λ q. slice_index prices q * load_at p d q) counted n in
    let same = sum_below-same (λ q. slice_index prices q * load_at p d q + counted q) (λ q. place_worth p cuts prices rates q (load_at p d q)) n
    (λ q below. ap (λ (m : ℕ). slice_index prices q * load_at p d q + m) (sym (rated-sum p cuts rates q (load_at p d q) (length cuts)))) in
    omega (arith, cut, plus, same)

-- what the loads are worth, link by link
pub worths-by_link : (p : Parts) (cuts : List Cut) (prices rates : List ℕ) (d : Design)
    → sum_below (λ q. place_worth p cuts prices rates q (load_at p d q)) (places p) ≡ sum_below (λ e. link_worth p cuts prices rates e (there_of p (load_at p d) e) (back_of p (load_at p d) e)) (length p.links)
worths-by_link p cuts prices rates d =
    sum_places p (λ q. place_worth p cuts prices rates q (load_at p d q))
    ∙ sum_below-same _ _ (length p.links) (λ e below. ap (λ (n : ℕ). there_of p (λ q. place_worth p cuts prices rates q (load_at p d q)) e + n) (at_back e (is_two_way p.orient)))
  where
    at_back : (e : ℕ) (b : Bool) → (if b then place_worth p cuts prices rates (2 * e + 1) (load_at p d (2 * e + 1)) else 0)
        ≡ worth (if b then slice_index prices (2 * e + 1) else 0) (if b then rated_on p cuts rates (2 * e + 1) else []) (if b then load_at p d (2 * e + 1) else 0)
    at_back e true = refl
    at_back e false = refl

-- More load is worth at least as much.

counted-rise : (p : Parts) (cut : Cut) (q x y : ℕ) → IsCut p cut → x ≤ y → counted_at p cut q x ≤ counted_at p cut q y
counted-rise p cut q x y is le = by_cases (place_crosses p cut.nodes q)
  where
    rise : part (batch_of p cut q) x ≤ part (batch_of p cut q) y
    rise = part-rise (batch_of p cut q) x y is.is_tally le

    by_cases : (b : Bool) → (if b then part (batch_of p cut q) x else 0) ≤ (if b then part (batch_of p cut q) y else 0)
    by_cases true = rise
    by_cases false = omega arith

-- more load on a place is worth at least as much
pub worth-rise : (p : Parts) (cuts : List Cut) (prices rates : List ℕ) (q x y : ℕ) → AreCuts p cuts → x ≤ y → place_worth p cuts prices rates q x ≤ place_worth p cuts prices rates q y
worth-rise p cuts prices rates q x y are le =
    let n = length cuts in
    let priced = mul-le-mul_left (slice_index prices q) le in
    let counted = sum_below-le (λ i. slice_index rates i * counted_at p (cut_at cuts i) q x) (λ i. slice_index rates i * counted_at p (cut_at cuts i) q y) n
    (λ i below. mul-le-mul_left (slice_index rates i) (counted-rise p (cut_at cuts i) q x y (are i below) le)) in
    let one = rated-sum p cuts rates q x n in
    let other = rated-sum p cuts rates q y n in
    omega (arith, priced, counted, one, other)
