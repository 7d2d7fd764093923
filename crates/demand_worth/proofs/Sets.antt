-- What sets of demands bring to a place is at most the worth of what they load it with.
use Rattle.std.proofs.Common.{◌≡◌, ◌≢◌, ℕ, zero, suc, ◌+◌, ◌*◌, ◌/◌, ◌<◌, ◌≤◌, ◌⊎◌, inl, inr, max, Bool, true, false, eqb, List, [], ◌∷◌, length, take, fold, if◌then◌else◌, refl, ap, sym, ◌∙◌, arith, add-one, slice_index, min}
use Rattle.std.specs.List.{sum_by}
use Rattle.plan_base.specs.declared.parts.Parts.{Parts}
use Rattle.plan_base.specs.declared.parts.Demand.{Demand}
use Rattle.plan_base.specs.declared.path.Design.{Design}
use Rattle.plan_base.specs.Sums.{sum_below}
use Rattle.plan_base.specs.declared.limits.TheConstants.{MAX_PRICED_LOAD}
use Rattle.plan_base.specs.Facts.{total_load, price_limit}
use Rattle.plan_base.specs.Arcs.{demand_at, no_demand}
use Rattle.plan_base.specs.Paths.{uses_place}
use Rattle.plan_base.specs.Designs.{path_at, load_from, load_at}
use Rattle.plan_base.proofs.SumsBelow.{sum_below-same, sum_below-le, sum_below-zero, sum_below-swap, sum_below-times, term-le-sum_below}
use Rattle.std.proofs.Math.Nat.{mul-le-mul, mul-le-mul_left, mul-le-mul_right, div-mul-le_self, zero-div}
use Rattle.std.proofs.lemmas.Nat.{le-div}
use Rattle.std.proofs.lemmas.Bool.{ne_eqb, eq-eqb, cases_eq}
use Rattle.std.proofs.lemmas.List.{get_or_past, take_all}
use Rattle.std.proofs.lemmas.List.Sums.{sum_by_more, sum_by-cons, get_or-le-sum_by, fold_more, length-filter, count_by-le-length}
use Rattle.demand_worth.specs.declared.limits.TheConstants.{MAX_MEASURES, MAX_SURCHARGES}
use Rattle.demand_worth.specs.declared.surcharges.Surcharge.{Surcharge}
use Rattle.demand_worth.specs.Measures.{measure}
use Rattle.demand_worth.specs.Surcharges.{no_surcharge, surcharge_at, AreSurcharges, on_place, number_of, surcharge_on, greatest_of}
use Rattle.demand_worth.specs.Worths.{load_of, weight_at, brought_at, best_of, worth_by, worth_at, AreWorths}
use Rattle.demand_worth.proofs.Divisors.{few-measures}
use Rattle.demand_worth.proofs.Best.{best_of-set, best_of-rises, best_of-le, best_of-beyond}
use Rattle.demand_worth.proofs.Orders.{demands-ascend}

by_order : (x y : ℕ) → (x ≤ y) ⊎ (y < x)
by_order x y = grind arith

-- a sum over the elements of a list is one over their places
sum_by-below : (f : Surcharge → ℕ) (list : List Surcharge) (n : ℕ) → n ≤ length list → sum_by f (take n list) ≡ sum_below (λ i. f (surcharge_at list i)) n
sum_by-below f list zero within = refl
sum_by-below f list (suc n) within =
    let more : sum_by f (take (suc n) list) ≡ sum_by f (take n list) + f (surcharge_at list n) = rw (← add-one) (sum_by_more f list n no_surcharge (omega arith)) in
    omega (arith, sum_by-below f list n (omega arith), more)

sum_by-whole : (f : Surcharge → ℕ) (list : List Surcharge) → sum_by f list ≡ sum_below (λ i. f (surcharge_at list i)) (length list)
sum_by-whole f list = rw (take_all (length list) list (omega arith)) at (sum_by-below f list (length list) (omega arith))

-- the number of the demand that a surcharge is of
abbrev demand_no : List Surcharge → ℕ → ℕ
demand_no here i = (surcharge_at here i).demand.0

pick_none : (s t : ℕ) (g : ℕ → ℕ) (n : ℕ) → n ≤ t → sum_below (λ k. g k * (if eqb t k then s else 0)) n ≡ 0
pick_none s t g n le = sum_below-zero (λ k. g k * (if eqb t k then s else 0)) n (λ k within. rw (ne_eqb t k (omega arith)) (omega arith))

-- of a sum in which one number is picked, no more than its term is left
one_pick : (s t : ℕ) (g : ℕ → ℕ) (n : ℕ) → sum_below (λ k. g k * (if eqb t k then s else 0)) n ≤ s * g t
one_pick s t g zero = omega arith
one_pick s t g (suc n) = by_cases (cases_eq t n) (one_pick s t g n)
  where
    by_cases : (t ≡ n) ⊎ (t ≢ n) → sum_below (λ k. g k * (if eqb t k then s else 0)) n ≤ s * g t → sum_below (λ k. g k * (if eqb t k then s else 0)) n + g n * (if eqb t n then s else 0) ≤ s * g t
    by_cases (inl is) before = rw (pick_none s t g n (omega arith), eq-eqb t n is) (let same = ap g is in rw same (omega arith))
    by_cases (inr other) before = rw (ne_eqb t n other) (omega (arith, before))

-- a demand's surcharge is part of the sum of those that are its
number_of-le : (here : List Surcharge) (k : ℕ) → number_of here k ≤ sum_by (λ (s : Surcharge). if eqb s.demand.0 k then s.number else 0) here
number_of-le [] k = omega arith
number_of-le (s ∷ here) k = by_cases (eqb s.demand.0 k) (number_of-le here k) (sum_by-cons (λ (s : Surcharge). if eqb s.demand.0 k then s.number else 0) s here)
  where
    by_cases : (b : Bool) → number_of here k ≤ sum_by (λ (s : Surcharge). if eqb s.demand.0 k then s.number else 0) here
        → sum_by (λ (s : Surcharge). if eqb s.demand.0 k then s.number else 0) (s ∷ here) ≡ (if b then s.number else 0) + sum_by (λ (s : Surcharge). if eqb s.demand.0 k then s.number else 0) here
        → (if b then s.number else number_of here k) ≤ sum_by (λ (s : Surcharge). if eqb s.demand.0 k then s.number else 0) (s ∷ here)
    by_cases true rest is = omega (arith, is)
    by_cases false rest is = omega (arith, rest, is)

-- what the demands of an instance bring by surcharges is no more than what the surcharges bring
numbers-le : (here : List Surcharge) (g : ℕ → ℕ) (count : ℕ) → sum_below (λ k. number_of here k * g k) count ≤ sum_below (λ i. (surcharge_at here i).number * g (demand_no here i)) (length here)
numbers-le here g count =
    let term = λ (i k : ℕ). g k * (if eqb (demand_no here i) k then (surcharge_at here i).number else 0) in
    let rows = sum_below-le (λ k. number_of here k * g k) (λ k. sum_below (λ i. term i k) (length here)) count
    (λ k within. let product = mul-le-mul_right (g k) (number_of-le here k) in
    omega (arith, product, ap (λ (x : ℕ). g k * x) (sum_by-whole (λ (s : Surcharge). if eqb s.demand.0 k then s.number else 0) here), sum_below-times (g k) (λ i. if eqb (demand_no here i) k then (surcharge_at here i).number else 0) (length here))) in
    let turned = sum_below-swap (λ k i. term i k) count (length here) in
    let least = sum_below-le (λ i. sum_below (λ k. term i k) count) (λ i. (surcharge_at here i).number * g (demand_no here i)) (length here)
    (λ i within. one_pick (surcharge_at here i).number (demand_no here i) g count) in
    omega (arith, rows, turned, least)

more-sum : (f : ℕ → ℕ) (low high : ℕ) → low ≤ high → sum_below f low ≤ sum_below f high
more-sum f low zero le = rw (let none : low ≡ 0 = omega arith in none) (omega arith)
more-sum f low (suc high) le =
    elim (by_order low high) [
      | inl earlier ↦ omega (arith, more-sum f low high earlier)
      | inr last ↦ (let is : low ≡ suc high = omega arith in rw is (omega arith))
    ]

-- a sum over ascending numbers is part of the sum over all
ascending-le : (g key : ℕ → ℕ) (n bound : ℕ) → ((i j : ℕ) → i < j → j < n → key i < key j) → ((i : ℕ) → i < n → key i < bound) → sum_below (λ i. g (key i)) n ≤ sum_below g bound
ascending-le g key zero bound ascend within = omega arith
ascending-le g key (suc n) bound ascend within =
    let before = ascending-le g key n (key n) (λ i j less below. ascend i j less (omega arith)) (λ i below. ascend i n below (omega arith)) in
    let longer = more-sum g (suc (key n)) bound (omega (arith, within n (omega arith))) in
    omega (arith, before, longer)

nothing_beyond : (g : ℕ → ℕ) (count more : ℕ) → ((k : ℕ) → count ≤ k → g k ≡ 0) → sum_below g (count + more) ≡ sum_below g count
nothing_beyond g count zero none = rw (let same : count + 0 ≡ count = omega arith in same) refl
nothing_beyond g count (suc more) none =
    let same : count + suc more ≡ suc (count + more) = omega arith in
    rw same (omega (arith, nothing_beyond g count more none, none (count + more) (omega arith)))

-- where it is 0 beyond a count, the sum over all is that up to the count
ascending-le-count : (g key : ℕ → ℕ) (n count : ℕ) → ((i j : ℕ) → i < j → j < n → key i < key j) → ((k : ℕ) → count ≤ k → g k ≡ 0) → sum_below (λ i. g (key i)) n ≤ sum_below g count
ascending-le-count g key n count ascend none =
    let keys = sum_below key n + 1 in
    let part = ascending-le g key n (count + keys) ascend (λ i within. omega (arith, term-le-sum_below key n i within)) in
    omega (arith, part, nothing_beyond g count keys none)

-- of different demands the loads are no more than those of all
here-le : (p : Parts) (list : List Surcharge) (q : ℕ) (g : ℕ → ℕ) → AreSurcharges list → ((k : ℕ) → g k ≤ (demand_at p k).load)
    → sum_below (λ i. g (demand_no (on_place list q) i)) (length (on_place list q)) ≤ sum_below g (length p.demands)
here-le p list q g are small =
    ascending-le-count g (demand_no (on_place list q)) (length (on_place list q)) (length p.demands)
    (λ i j less below. demands-ascend list q i j are less below)
    (λ k past. let none : demand_at p k ≡ no_demand = get_or_past p.demands k no_demand past in let zero_load : (demand_at p k).load ≡ 0 = ap (λ d. d.load) none in omega (arith, small k, zero_load))

-- quotients of some numbers are together no more than the quotient of their sum
quotients-le : (x : ℕ → ℕ) (unit n : ℕ) → sum_below (λ i. x i / unit) n * unit ≤ sum_below x n
quotients-le x unit zero = omega arith
quotients-le x unit (suc n) = omega (arith, quotients-le x unit n, div-mul-le_self (x n) unit)

-- the law of sets, in any unit
sets-in : (p : Parts) (unit : ℕ) (list : List Surcharge) (q load : ℕ) (chosen : ℕ → Bool) → 1 ≤ unit → AreSurcharges list
    → sum_below (λ k. if chosen k then (demand_at p k).load else 0) (length p.demands) ≤ load
    → sum_below (λ k. surcharge_on list q k * (if chosen k then (demand_at p k).load else 0)) (length p.demands) ≤ worth_by p unit (on_place list q) load
sets-in p unit list q load chosen positive are within =
    let here = on_place list q in
    let taken = λ (k : ℕ). if chosen k then (demand_at p k).load else 0 in
    let picked = λ (i : ℕ). chosen (demand_no here i) in
    let numbers = numbers-le here taken (length p.demands) in
    let gains = sum_below-same (λ i. (surcharge_at here i).number * taken (demand_no here i)) (λ i. if picked i then brought_at p here i else 0) (length here) (λ i below. gain i (picked i)) in
    let loads = here-le p list q taken are (λ k. part k (chosen k)) in
    let weights = sum_below-same (λ i. taken (demand_no here i) / unit) (λ i. if picked i then weight_at p unit here i else 0) (length here) (λ i below. weight i (picked i)) in
    let quotients = quotients-le (λ i. taken (demand_no here i)) unit (length here) in
    let fits = le-div (sum_below (λ i. taken (demand_no here i) / unit) (length here)) load unit positive (omega (arith, quotients, loads)) in
    omega (arith, numbers, gains, best_of-set p unit here picked (length here) (load / unit) (omega (arith, fits, weights)))
  where
    gain : (i : ℕ) (b : Bool) → (surcharge_at (on_place list q) i).number * (if b then load_of p (surcharge_at (on_place list q) i) else 0) ≡ (if b then brought_at p (on_place list q) i else 0)
    gain i true = refl
    gain i false = omega arith

    weight : (i : ℕ) (b : Bool) → (if b then load_of p (surcharge_at (on_place list q) i) else 0) / unit ≡ (if b then weight_at p unit (on_place list q) i else 0)
    weight i true = refl
    weight i false = zero-div unit

    part : (k : ℕ) (b : Bool) → (if b then (demand_at p k).load else 0) ≤ (demand_at p k).load
    part k true = omega arith
    part k false = omega arith

-- what a set of demands brings is at most the worth of a load that it fits into
pub sets-le : (p : Parts) (list : List Surcharge) (q load : ℕ) (chosen : ℕ → Bool) → AreSurcharges list
    → sum_below (λ k. if chosen k then (demand_at p k).load else 0) (length p.demands) ≤ load
    → sum_below (λ k. surcharge_on list q k * (if chosen k then (demand_at p k).load else 0)) (length p.demands) ≤ worth_at p list q load
sets-le p list q load chosen are within = sets-in p (measure p) list q load chosen (omega arith) are within

-- what a design's demands bring to a place is at most the worth of its load
pub designs-le : (p : Parts) (list : List Surcharge) (q : ℕ) (d : Design) → AreSurcharges list
    → sum_below (λ k. surcharge_on list q k * load_from p d q k) (length p.demands) ≤ worth_at p list q (load_at p d q)
unfolding load_from
designs-le p list q d are = sets-le p list q (load_at p d q) (λ k. uses_place p q (path_at d k)) are (omega arith)

-- a greater load is worth no less
pub worth_at-rises : (p : Parts) (list : List Surcharge) (q low high : ℕ) → low ≤ high → worth_at p list q low ≤ worth_at p list q high
worth_at-rises p list q low high le =
    best_of-rises p (measure p) (on_place list q) (length (on_place list q)) (low / measure p) (high / measure p)
    (le-div (low / measure p) high (measure p) (omega arith) (omega (arith, div-mul-le_self low (measure p))))

-- no surcharge is above the greatest
pub number-le-greatest : (here : List Surcharge) (i : ℕ) → i < length here → (surcharge_at here i).number ≤ greatest_of here
number-le-greatest here i within = omega (arith, so_far (length here) (omega arith) i within, ap (fold (λ most (s : Surcharge). max most s.number) 0) (take_all (length here) here (omega arith)))
  where
    so_far : (n : ℕ) → n ≤ length here → (k : ℕ) → k < n → (surcharge_at here k).number ≤ greatest_of (take n here)
    so_far zero le k below = absurd (omega arith)
    so_far (suc n) le k below =
        let more : greatest_of (take (suc n) here) ≡ max (greatest_of (take n here)) (surcharge_at here n).number = rw (← add-one) (fold_more (λ most (s : Surcharge). max most s.number) 0 here n no_surcharge (omega arith)) in
        elim (by_order n k) [
          | inl last ↦ (let is : k ≡ n = omega arith in rw is (omega (arith, more)))
          | inr earlier ↦ omega (arith, more, so_far n (omega arith) k earlier)
        ]

loads-taken : (p : Parts) (n : ℕ) → n ≤ length p.demands → sum_below (λ k. (demand_at p k).load) n ≡ sum_by (λ (k : Demand). k.load) (take n p.demands)
loads-taken p zero within = refl
loads-taken p (suc n) within =
    let more : sum_by (λ (k : Demand). k.load) (take (suc n) p.demands) ≡ sum_by (λ (k : Demand). k.load) (take n p.demands) + (demand_at p n).load = rw (← add-one) (sum_by_more (λ (k : Demand). k.load) p.demands n no_demand (omega arith)) in
    omega (arith, loads-taken p n (omega arith), more)

loads-total : (p : Parts) → sum_below (λ k. (demand_at p k).load) (length p.demands) ≡ total_load p
loads-total p = rw (take_all (length p.demands) p.demands (omega arith)) at (loads-taken p (length p.demands) (omega arith))

-- the loads of the demands with surcharges on a place are at most the total load
pub loads-here-le : (p : Parts) (list : List Surcharge) (q : ℕ) → AreSurcharges list → sum_below (λ i. load_of p (surcharge_at (on_place list q) i)) (length (on_place list q)) ≤ total_load p
loads-here-le p list q are = omega (arith, here-le p list q (λ k. (demand_at p k).load) are (λ k. omega arith), loads-total p)

-- the worth of a load is at most the greatest surcharge times the total load
pub worth_at-small : (p : Parts) (list : List Surcharge) (q load : ℕ) → AreSurcharges list → worth_at p list q load ≤ greatest_of (on_place list q) * total_load p
worth_at-small p list q load are =
    let here = on_place list q in
    let most = greatest_of here in
    let all = best_of-le p (measure p) here (length here) (load / measure p) in
    let each = sum_below-le (brought_at p here) (λ i. most * load_of p (surcharge_at here i)) (length here) (λ i within. mul-le-mul_right (load_of p (surcharge_at here i)) (number-le-greatest here i within)) in
    let times = sum_below-times most (λ i. load_of p (surcharge_at here i)) (length here) in
    let product : most * sum_below (λ i. load_of p (surcharge_at here i)) (length here) ≤ most * total_load p = mul-le-mul_left most (loads-here-le p list q are) in
    omega (arith, all, each, times, product)

-- the weights of the demands with surcharges on a place come to few measures
pub weights-few : (p : Parts) (list : List Surcharge) (q n : ℕ) → AreSurcharges list → n ≤ length (on_place list q) → sum_below (weight_at p (measure p) (on_place list q)) n ≤ MAX_MEASURES
weights-few p list q n are within =
    let here = on_place list q in
    let quotients = quotients-le (λ i. load_of p (surcharge_at here i)) (measure p) (length here) in
    let fits = le-div (sum_below (weight_at p (measure p) here) (length here)) (total_load p) (measure p) (omega arith) (omega (arith, quotients, loads-here-le p list q are)) in
    omega (arith, fits, few-measures p, more-sum (weight_at p (measure p) here) n (length here) within)

-- a demand's load is at most the total load
pub load_of-le : (p : Parts) (s : Surcharge) → load_of p s ≤ total_load p
load_of-le p s = by_order_of (by_order (length p.demands) s.demand.0)
  where
    by_order_of : (length p.demands ≤ s.demand.0) ⊎ (s.demand.0 < length p.demands) → load_of p s ≤ total_load p
    by_order_of (inl past) = (let none : demand_at p s.demand.0 ≡ no_demand = get_or_past p.demands s.demand.0 no_demand past in let zero_load : (demand_at p s.demand.0).load ≡ 0 = ap (λ d. d.load) none in omega (arith, zero_load))
    by_order_of (inr within) = get_or-le-sum_by (λ (d : Demand). d.load) p.demands s.demand.0 no_demand within

-- what a demand brings by a surcharge within the price limit
pub brought-small : (p : Parts) (here : List Surcharge) (i : ℕ) → i < length here → greatest_of here ≤ price_limit p → brought_at p here i ≤ MAX_PRICED_LOAD
brought-small p here i within limit =
    let number : (surcharge_at here i).number ≤ price_limit p = omega (arith, number-le-greatest here i within) in
    let load : load_of p (surcharge_at here i) ≤ max (total_load p) 1 = omega (arith, load_of-le p (surcharge_at here i)) in
    let product : brought_at p here i ≤ price_limit p * max (total_load p) 1 = mul-le-mul number load in
    omega (arith, product, div-mul-le_self MAX_PRICED_LOAD (max (total_load p) 1))

-- so many demands bring at most so many times that
pub best_of-small : (p : Parts) (unit : ℕ) (here : List Surcharge) (n capacity : ℕ) → n ≤ length here → greatest_of here ≤ price_limit p → best_of p unit here n capacity ≤ n * MAX_PRICED_LOAD
best_of-small p unit here n capacity within limit = omega (arith, best_of-le p unit here n capacity, summed n within)
  where
    summed : (m : ℕ) → m ≤ length here → sum_below (brought_at p here) m ≤ m * MAX_PRICED_LOAD
    summed zero le = omega arith
    summed (suc m) le = omega (arith, summed m (omega arith), brought-small p here m (omega arith) limit)

-- there are few on a place
pub on_place-few : (list : List Surcharge) (q : ℕ) → AreSurcharges list → length (on_place list q) ≤ MAX_SURCHARGES
on_place-few list q are = omega (arith, length-filter (λ (s : Surcharge). eqb s.place q) list, count_by-le-length (λ (s : Surcharge). eqb s.place q) list, are.few)

-- a row that holds what each capacity brings, up to that of the most load or to what holds all, says the worths
pub AreWorths-made : (p : Parts) (list : List Surcharge) (q most unit last : ℕ) (here : List Surcharge) (cells : List ℕ) → unit ≡ measure p → here ≡ on_place list q
    → last ≡ min (sum_below (weight_at p unit here) (length here)) (most / unit) → ((c : ℕ) → c < last + 1 → slice_index cells c ≡ best_of p unit here (length here) c)
    → AreWorths p list q most (record { unit = unit; last = last; cells = cells })
AreWorths-made p list q most unit last here cells unit_is here_is last_is filled load within = rw (← unit_is, ← here_is) (by_order_of (by_order (load / unit) last))
  where
    quotient : load / unit ≤ most / unit
    quotient = le-div (load / unit) most unit (let positive : 1 ≤ unit = omega (arith, unit_is) in positive) (omega (arith, div-mul-le_self load unit, within))

    by_order_of : (load / unit ≤ last) ⊎ (last < load / unit) → slice_index cells (min (load / unit) last) ≡ best_of p unit here (length here) (load / unit)
    by_order_of (inl here_in) = let is : min (load / unit) last ≡ load / unit = omega arith in rw is (filled (load / unit) (omega arith))
    by_order_of (inr beyond) =
        let is : min (load / unit) last ≡ last = omega arith in
        let all : last ≡ sum_below (weight_at p unit here) (length here) = omega (arith, last_is, quotient, beyond) in
        let same = best_of-beyond p unit here (length here) (load / unit) (omega (arith, all, beyond)) in
        rw is (filled last (omega arith) ∙ (rw all (sym same)))

number_of-within : (here : List Surcharge) (k most : ℕ) → ((i : ℕ) → i < length here → (surcharge_at here i).number ≤ most) → number_of here k ≤ most
number_of-within [] k most each = omega arith
number_of-within (s ∷ here) k most each = by_cases (eqb s.demand.0 k) (each 0 (omega arith)) (number_of-within here k most (λ i within. each (suc i) (omega (arith, within))))
  where
    by_cases : (b : Bool) → s.number ≤ most → number_of here k ≤ most → (if b then s.number else number_of here k) ≤ most
    by_cases true first rest = first
    by_cases false first rest = rest

-- no demand's surcharge is above the greatest on the place
pub surcharge_on-le-greatest : (list : List Surcharge) (q k : ℕ) → surcharge_on list q k ≤ greatest_of (on_place list q)
surcharge_on-le-greatest list q k = number_of-within (on_place list q) k (greatest_of (on_place list q)) (λ i within. number-le-greatest (on_place list q) i within)

-- that own prices are small
pub ruleset own_prices = (surcharge_on-le-greatest)
