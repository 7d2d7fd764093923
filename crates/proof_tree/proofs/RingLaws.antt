-- The bound of the ring at the start prices is 5, and with the cuts of its nodes 10.
use Rattle.std.proofs.Common.{◌≡◌, ◌≢◌, ℕ, zero, suc, ◌+◌, ◌-◌, ◌*◌, ◌/◌, ◌<◌, ◌≤◌, max, min, true, false, List, [], ◌∷◌, get_or, slice_index, refl, sym, ap, ◌∙◌, arith, lit≤, lit<}
use Rattle.std.specs.Prelude.{pos, ◌-ℤ◌, ◌≤ℤ◌}
use Rattle.std.specs.List.{sum_by}
use Rattle.std.proofs.Math.Nat.{mul-le-mul_right}
use Rattle.std.proofs.lemmas.Int.{ints}
use Rattle.std.proofs.lemmas.Bool.{ltb-true}
use Rattle.std.proofs.lemmas.List.Elements.{All-nil, All-cons}
use Rattle.std.proofs.lemmas.List.Sums.{sum_by-cons}
use Rattle.plan_base.specs.declared.ids.ArcId.{ArcId}
use Rattle.plan_base.specs.declared.parts.CountLaw.TheVariants.{Any}
use Rattle.plan_base.specs.declared.parts.Demand.{Demand}
use Rattle.plan_base.specs.Facts.{price_limit}
use Rattle.plan_base.specs.Arcs.{link_of, link_at, demand_at}
use Rattle.plan_base.specs.Paths.{IsSimplePath}
use Rattle.plan_base.specs.Designs.{module_cost_with}
use Rattle.plan_base.specs.DesignFaults.{step_fault, path_fault}
use Rattle.plan_base.proofs.Bools.{and-first}
use Rattle.link_steps.specs.declared.rated.Rated.{Rated}
use Rattle.link_steps.specs.Costs.{CarriesOn, IsLeastModuleCostOn, IsStepCostOn, IsStepCost}
use Rattle.link_steps.specs.Ranges.{whole_ranges}
use Rattle.link_steps.specs.Tallies.{part, worth}
use Rattle.link_steps.specs.Values.{ranges_of_link, IsLinkValue, IsStartPrice}
use Rattle.link_steps.specs.WorthValues.{net_value, IsWorthValue}
use Rattle.link_steps.proofs.TallyLaws.{tally-le}
use Rattle.arc_restrict.specs.Restrictions.{none_forbidden, IsPermittedPath}
use Rattle.arc_restrict.specs.Prices.{AreWithinLimit, price_of, IsLeastPrice}
use Rattle.proof_tree.specs.declared.cuts.Cut.{Cut}
use Rattle.proof_tree.specs.Cuts.{cut_at, IsCut, IsCutList}
use Rattle.proof_tree.specs.Regions.{whole}
use Rattle.proof_tree.specs.Bounds.{IsThousandthUp, IsOpeningBound}
use Rattle.proof_tree.specs.RatedBounds.{crossing_rates, AreRatedPrices, IsRatedValue, IsRatedBound}
use Rattle.proof_tree.specs.Triangle.{arc, link}
use Rattle.proof_tree.specs.WorkedCuts.{one, ring, ring_cuts, ring_prices, ring_rates}
use Rattle.proof_tree.proofs.WorkedPaths.{one_arc-permitted, below_four}
use Rattle.proof_tree.proofs.TriangleLaws.{nothing_free, one_module, nothing_left, from_nothing}
use Rattle.proof_tree.proofs.OpeningLaws.{le-div}

-- Each demand may take the link between its ends.

permitted : (k : ℕ) → k < 4 → IsPermittedPath ring none_forbidden k (arc (2 * k) ∷ [])
unfolding path_fault step_fault
permitted = below_four (λ k. IsPermittedPath ring none_forbidden k (arc (2 * k) ∷ []))
    (one_arc-permitted ring none_forbidden 0 0 refl refl) (one_arc-permitted ring none_forbidden 1 2 refl refl)
    (one_arc-permitted ring none_forbidden 2 4 refl refl) (one_arc-permitted ring none_forbidden 3 6 refl refl)

-- At the start prices.

abbrev start_prices : List ℕ
start_prices = 1_250_000_000 ∷ 1_250_000_000 ∷ 1_250_000_000 ∷ 1_250_000_000 ∷ []

start-at : (e : ℕ) → e < 4 → slice_index start_prices e ≡ 1_250_000_000
start-at = below_four (λ e. slice_index start_prices e ≡ 1_250_000_000) refl refl refl refl

-- a path with an arc costs at least a link
some_price : (k : Demand) (a : ArcId) (rest : List ArcId) → IsSimplePath ring k (a ∷ rest) → 1_250_000_000 ≤ price_of ring start_prices (a ∷ rest)
some_price k a rest simple =
    let below : link_of a < 4 = ltb-true _ _ (and-first _ _ (simple.are_arcs 0 (omega arith))) in
    let cons : price_of ring start_prices (a ∷ rest) ≡ slice_index start_prices (link_of a) + price_of ring start_prices rest = sum_by-cons (λ (b : ArcId). get_or start_prices (link_of b) 0) a rest in
    omega (arith, cons, start-at (link_of a) below)

-- a demand's source is not its target
apart : (k : ℕ) → k < 4 → (demand_at ring k).source.0 ≢ (demand_at ring k).target.0
apart = below_four (λ k. (demand_at ring k).source.0 ≢ (demand_at ring k).target.0)
    (λ same. (let bad : 0 ≡ 1 = same in omega arith)) (λ same. (let bad : 1 ≡ 2 = same in omega arith))
    (λ same. (let bad : 2 ≡ 3 = same in omega arith)) (λ same. (let bad : 3 ≡ 0 = same in omega arith))

start_least : (k : ℕ) → k < 4 → (arcs : List ArcId) → IsPermittedPath ring none_forbidden k arcs → 1_250_000_000 ≤ price_of ring start_prices arcs
start_least k below [] h = absurd (apart k below h.simple.ends_at_target)
start_least k below (a ∷ rest) h = some_price (demand_at ring k) a rest h.simple

start_least_price : (k : ℕ) → k < 4 → IsLeastPrice ring none_forbidden start_prices k 1_250_000_000
start_least_price k below = record { path = arc (2 * k) ∷ []; permitted = permitted k below; attained = below_four (λ n. price_of ring start_prices (arc (2 * n) ∷ []) ≡ 1_250_000_000) refl refl refl refl k below; least = start_least k below }

-- up to the total load of 4 no load is worth more than a module
full_worth : (source target load back c : ℕ) → load ≤ 4_000_000 → IsStepCostOn Any (link source target 5_000_000_000_000) load back c → 1_250_000_000 * load ≤ 1000 * c
full_worth source target zero back c few is = omega arith
full_worth source target (suc load) back c few is =
    let dear = one_module source target 5_000_000_000_000 (max (suc load) back) is.module_cost (omega arith) is.is_least in
    let sum : c ≡ 0 * (suc load + back) + is.module_cost = is.is_sum in
    omega (arith, dear, sum, few)

start_value : (e : ℕ) → e < 4 → IsLinkValue ring e (ranges_of_link ring (whole_ranges ring) e) (slice_index start_prices e) 0 (pos 0)
start_value = below_four (λ e. IsLinkValue ring e (ranges_of_link ring (whole_ranges ring) e) (slice_index start_prices e) 0 (pos 0))
    (nothing_left ring 0 1_250_000_000 _ (nothing_free 0 1 5_000_000_000_000) (from_nothing 4_000_000) (from_nothing 0) (λ x y c within is. full_worth 0 1 x y c within.few is))
    (nothing_left ring 1 1_250_000_000 _ (nothing_free 1 2 5_000_000_000_000) (from_nothing 4_000_000) (from_nothing 0) (λ x y c within is. full_worth 1 2 x y c within.few is))
    (nothing_left ring 2 1_250_000_000 _ (nothing_free 2 3 5_000_000_000_000) (from_nothing 4_000_000) (from_nothing 0) (λ x y c within is. full_worth 2 3 x y c within.few is))
    (nothing_left ring 3 1_250_000_000 _ (nothing_free 3 0 5_000_000_000_000) (from_nothing 4_000_000) (from_nothing 0) (λ x y c within is. full_worth 3 0 x y c within.few is))

five : IsThousandthUp (pos 5_000_000_000_000_000) (pos 5_000_000_000_000)
five = record { reaches = omega (arith, ints); least = λ other h. omega (arith, ints) }

-- one module carries the total load
one_carries : (source target : ℕ) → IsLeastModuleCostOn Any (link source target 5_000_000_000_000) 4_000_000 5_000_000_000_000
one_carries source target = record { counts = 1 ∷ []; carries = record { count = refl; enough = lit≤ tt; lawful = tt }; attained = refl; least = at_least }
  where
    at_least : (counts : List ℕ) → CarriesOn Any (link source target 5_000_000_000_000) 4_000_000 counts → 5_000_000_000_000 ≤ module_cost_with (link source target 5_000_000_000_000) counts
    at_least [] carries = absurd (let bad : 0 ≡ 1 = carries.count in omega arith)
    at_least (zero ∷ counts) carries = absurd (let enough : 4_000_000 ≤ 0 = carries.enough in omega arith)
    at_least (suc n ∷ counts) carries = omega (arith, mul-le-mul_right 5_000_000_000_000 (let le : 1 ≤ suc n = omega arith in le))

start_price : (source target : ℕ) → IsStartPrice ring (link source target 5_000_000_000_000) 1_250_000_000
start_price source target = record {
  of_used = λ used. record {
    unit_price = 1_250_000_000;
    is_least = record {
      load = 4_000_000;
      cost = 5_000_000_000_000;
      positive = lit< tt;
      within = lit≤ tt;
      is_least = one_carries source target;
      attained = refl;
      least = at_least;
    };
    cut = refl;
  };
  of_unused = λ none. absurd (let bad : 4_000_000 ≡ 0 = none in omega arith);
}
  where
    at_least : (other c : ℕ) → 0 < other → other ≤ 4_000_000 → IsLeastModuleCostOn Any (link source target 5_000_000_000_000) other c → 1_250_000_000 ≤ 1000 * 0 + 1000 * c / other
    at_least other c positive few is =
        let dear = one_module source target 5_000_000_000_000 other c positive is in
        let unit = le-div 1_250_000_000 (1000 * c) other positive (omega (arith, dear, few)) in
        omega (arith, unit)

-- the opening bound of the ring is 5
pub ring-opening : IsOpeningBound ring (pos 5_000_000_000_000)
ring-opening = record {
  prices = start_prices;
  are_start = record { count = refl; each = start };
  is_bound = record { least_prices = λ k. 1_250_000_000; values = λ e. pos 0; are_least = start_least_price; are_values = start_value; rounded = five };
}
  where
    start : (e : ℕ) → e < 4 → IsStartPrice ring (link_at ring e) (slice_index start_prices e)
    start = below_four (λ e. IsStartPrice ring (link_at ring e) (slice_index start_prices e)) (start_price 0 1) (start_price 1 2) (start_price 2 3) (start_price 3 0)

-- With the cuts.

-- a cut as each place of the ring that crosses it sees it
abbrev counted : Rated
counted = record { batch = record { period = 10_000_000; first = 2_000_000; before = 0; rest = 2_000_000 }; rate = 1_250_000_000 }

-- with two cuts a load is worth at most a module, and no load is worth nothing
worth-few : (load : ℕ) → worth 0 (counted ∷ counted ∷ []) load ≤ 2_1_250_000_000 * min load 2_000_000
worth-few load =
    let f = λ (r : Rated). r.rate * part r.batch load in
    let first = sum_by-cons f counted (counted ∷ []) in
    let second = sum_by-cons f counted [] in
    let few : part counted.batch load ≤ min (load - 0) 2_000_000 = tally-le 10_000_000 2_000_000 (min (load - 0) 2_000_000) (record { some = lit≤ tt; within = lit≤ tt }) in
    few_of (sum_by f (counted ∷ counted ∷ [])) (sum_by f (counted ∷ [])) (part counted.batch load) load first second few
  where
    few_of : (both later part load : ℕ) → both ≡ 1_250_000_000 * part + later → later ≡ 1_250_000_000 * part + 0 → part ≤ min (load - 0) 2_000_000 → 0 * load + both ≤ 2_1_250_000_000 * min load 2_000_000
    few_of both later part load one two few = omega (arith, one, two, few)

no_gain : (source target load back c : ℕ) → IsStepCostOn Any (link source target 5_000_000_000_000) load back c → pos 0 ≤ℤ net_value (worth 0 (counted ∷ counted ∷ [])) (worth 0 []) load back c
no_gain source target zero back c is = nothing (worth 0 (counted ∷ counted ∷ []) 0) c (worth-few 0)
  where
    nothing : (w c : ℕ) → w ≤ 2_1_250_000_000 * min 0 2_000_000 → pos 0 ≤ℤ (pos (1000 * c) -ℤ pos (w + (0 * back + 0)))
    nothing w c few = omega (arith, ints)
no_gain source target (suc load) back c is =
    let dear = one_module source target 5_000_000_000_000 (max (suc load) back) is.module_cost (omega arith) is.is_least in
    let sum : c ≡ 0 * (suc load + back) + is.module_cost = is.is_sum in
    module_worth (worth 0 (counted ∷ counted ∷ []) (suc load)) c (let few = worth-few (suc load) in omega (arith, few)) (omega (arith, dear, sum))
  where
    module_worth : (w c : ℕ) → w ≤ 5_000_000_000_000_000 → 5_000_000_000_000 ≤ c → pos 0 ≤ℤ (pos (1000 * c) -ℤ pos (w + (0 * back + 0)))
    module_worth w c few dear = omega (arith, ints)

-- where two cuts count a place and no load is worth more than it costs, the value of the link is nothing
nothing_gained : (e : ℕ) → IsStepCost ring e 0 0 0 → ((load back c : ℕ) → IsStepCost ring e load back c → pos 0 ≤ℤ net_value (worth 0 (counted ∷ counted ∷ [])) (worth 0 []) load back c)
    → IsWorthValue ring e (record { there = record { least = 0; most = 4_000_000 }; back = record { least = 0; most = 0 } }) 0 (counted ∷ counted ∷ []) 0 [] (pos 0)
nothing_gained e free no_gain = record {
  load = 0;
  back = 0;
  give = record { in_range = from_nothing 4_000_000; back_in_range = from_nothing 0; cost = 0; is_cost = free; attained = refl };
  least = λ other other_back c in_range back_in_range is. no_gain other other_back c is;
}

rated_value : (e : ℕ) → e < 4 → IsRatedValue ring ring_cuts (whole_ranges ring) ring_prices ring_rates e (pos 0)
rated_value = below_four (λ e. IsRatedValue ring ring_cuts (whole_ranges ring) ring_prices ring_rates e (pos 0))
    (nothing_gained 0 (nothing_free 0 1 5_000_000_000_000) (no_gain 0 1))
    (nothing_gained 1 (nothing_free 1 2 5_000_000_000_000) (no_gain 1 2))
    (nothing_gained 2 (nothing_free 2 3 5_000_000_000_000) (no_gain 2 3))
    (nothing_gained 3 (nothing_free 3 0 5_000_000_000_000) (no_gain 3 0))

rated_least_price : (k : ℕ) → k < 4 → IsLeastPrice ring none_forbidden ring_prices k 0
rated_least_price k below = record { path = arc (2 * k) ∷ []; permitted = permitted k below; attained = below_four (λ n. price_of ring ring_prices (arc (2 * n) ∷ []) ≡ 0) refl refl refl refl k below; least = λ other h. omega arith }

ten : IsThousandthUp (pos 10_000_000_000_000_000) (pos 10_000_000_000_000)
ten = record { reaches = omega (arith, ints); least = λ other h. omega (arith, ints) }

-- with the cuts of the single nodes at their rates, the bound of the ring is 10
pub ring-bound : IsRatedBound ring ring_cuts (whole ring) ring_prices ring_rates (pos 10_000_000_000_000)
ring-bound = record { least_prices = λ k. 0; values = λ e. pos 0; are_least = rated_least_price; are_values = rated_value; rounded = ten }

-- The prices and the cuts are as they have to be.

-- each place of the ring may have its price with the rates of the cuts
pub ring-lawful : AreRatedPrices ring ring_cuts ring_prices ring_rates
ring-lawful = record { prices_within = four 0 (lit≤ tt); rates_within = four 1_250_000_000 (lit≤ tt); each = λ q below. record { within_limit = limit q below; cover_routing = cover q below } }
  where
    four : (price : ℕ) → price ≤ 1_250_000_000 → AreWithinLimit ring (price ∷ price ∷ price ∷ price ∷ [])
    four price few =
        let P = λ (x : ℕ). x ≤ price_limit ring in
        let limit : 1_250_000_000 ≤ price_limit ring = lit≤ tt in
        let is : price ≤ price_limit ring = omega (arith, few, limit) in
        All-cons P price (price ∷ price ∷ price ∷ []) is (All-cons P price (price ∷ price ∷ []) is (All-cons P price (price ∷ []) is (All-cons P price [] is (All-nil P))))

    limit : (q : ℕ) → q < 4 → slice_index ring_prices q + crossing_rates ring ring_cuts ring_rates q ≤ price_limit ring
    limit = below_four (λ q. slice_index ring_prices q + crossing_rates ring ring_cuts ring_rates q ≤ price_limit ring) (lit≤ tt) (lit≤ tt) (lit≤ tt) (lit≤ tt)

    cover : (q : ℕ) → q < 4 → 0 < crossing_rates ring ring_cuts ring_rates q → 1000 * (link_at ring q).routing ≤ slice_index ring_prices q
    cover = below_four (λ q. 0 < crossing_rates ring ring_cuts ring_rates q → 1000 * (link_at ring q).routing ≤ slice_index ring_prices q) (λ positive. lit≤ tt) (λ positive. lit≤ tt) (λ positive. lit≤ tt) (λ positive. lit≤ tt)

-- the cuts of the single nodes are cuts of the ring, not too many, and no two the same
pub ring-cuts : IsCutList ring ring_cuts
ring-cuts = record { few = lit≤ tt; are_cuts = are_cuts; different = different }
  where
    are_cuts : (i : ℕ) → i < 4 → IsCut ring (cut_at ring_cuts i)
    are_cuts zero below = record { count = refl; some = (0, true, lit< tt, refl, refl); not_all = (1, false, lit< tt, refl, refl); is_tally = record { some = lit≤ tt; within = lit≤ tt }; small = lit≤ tt }
    are_cuts (suc zero) below = record { count = refl; some = (1, true, lit< tt, refl, refl); not_all = (0, false, lit< tt, refl, refl); is_tally = record { some = lit≤ tt; within = lit≤ tt }; small = lit≤ tt }
    are_cuts (suc (suc zero)) below = record { count = refl; some = (2, true, lit< tt, refl, refl); not_all = (0, false, lit< tt, refl, refl); is_tally = record { some = lit≤ tt; within = lit≤ tt }; small = lit≤ tt }
    are_cuts (suc (suc (suc zero))) below = record { count = refl; some = (3, true, lit< tt, refl, refl); not_all = (0, false, lit< tt, refl, refl); is_tally = record { some = lit≤ tt; within = lit≤ tt }; small = lit≤ tt }
    are_cuts (suc (suc (suc (suc i)))) below = absurd (omega arith)

    -- the node of a cut is in no other one
    holds_own : (j : ℕ) → j < 4 → get_or (cut_at ring_cuts j).nodes j false ≡ true
    holds_own = below_four (λ j. get_or (cut_at ring_cuts j).nodes j false ≡ true) refl refl refl refl

    not_other : (i j : ℕ) → i < j → j < 4 → get_or (cut_at ring_cuts i).nodes j false ≡ false
    not_other zero zero less below = absurd (omega arith)
    not_other zero (suc zero) less below = refl
    not_other zero (suc (suc zero)) less below = refl
    not_other zero (suc (suc (suc zero))) less below = refl
    not_other (suc zero) (suc zero) less below = absurd (omega arith)
    not_other (suc zero) (suc (suc zero)) less below = refl
    not_other (suc zero) (suc (suc (suc zero))) less below = refl
    not_other (suc (suc zero)) (suc (suc (suc zero))) less below = refl
    not_other i j less below = absurd (omega arith)

    different : (i j : ℕ) → i < j → j < 4 → cut_at ring_cuts i ≢ cut_at ring_cuts j
    different i j less below same = (let bad : false ≡ true = sym (not_other i j less below) ∙ ap (λ (cut : Cut). get_or cut.nodes j false) same ∙ holds_own j below in cc)
