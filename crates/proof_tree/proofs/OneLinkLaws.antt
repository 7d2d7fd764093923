-- The plans of the worked instance with one link: what the unit of costs closes, and splits of its loads.
use Rattle.std.proofs.Common.{◌≡◌, ℕ, zero, suc, ◌+◌, ◌*◌, ◌/◌, ◌<◌, ◌≤◌, max, inr, true, false, List, [], ◌∷◌, length, IsTrue, slice_index, refl, sym, subst, arith, lit≤, lit<}
use Rattle.std.specs.Prelude.{ℤ, pos, ◌+ℤ◌}
use Rattle.std.proofs.lemmas.Int.{ints}
use Rattle.std.proofs.lemmas.Bool.{ltb-true}
use Rattle.std.proofs.lemmas.List.Elements.{All-nil, All-cons}
use Rattle.plan_base.specs.declared.ids.ArcId.{ArcId}
use Rattle.plan_base.specs.declared.parts.CountLaw.TheVariants.{Any}
use Rattle.plan_base.specs.Sums.{int_sum_below}
use Rattle.plan_base.specs.Facts.{price_limit, is_useful}
use Rattle.plan_base.specs.Arcs.{is_arc, tail_of, link_at, demand_at}
use Rattle.plan_base.specs.Paths.{IsSimplePath}
use Rattle.plan_base.specs.Designs.{path_at, module_at, load_from, module_cost_with}
use Rattle.plan_base.specs.DesignFaults.{step_fault, path_fault, demand_path_fault, counts_fault, carries_fault, design_fault}
use Rattle.plan_base.proofs.Bools.{and-first}
use Rattle.plan_base.proofs.DesignLaws.{IsGoodDesign-design_fault}
use Rattle.link_steps.specs.declared.range.LoadRange.{LoadRange}
use Rattle.link_steps.specs.Costs.{CarriesOn, IsStepCostOn}
use Rattle.link_steps.specs.Ranges.{whole_ranges}
use Rattle.link_steps.specs.Values.{ranges_of_link, IsLinkValue, IsStartPrice}
use Rattle.link_steps.specs.Unit.{IsMultiple, IsUnit}
use Rattle.arc_restrict.specs.Restrictions.{none_forbidden, IsPermittedPath, IsOnlyPath}
use Rattle.arc_restrict.specs.Prices.{AreWithinLimit, price_of, IsLeastPrice}
use Rattle.proof_tree.specs.Regions.{Region, whole, up_to, above, AreInRange}
use Rattle.proof_tree.specs.Bounds.{IsThousandthUp, price_total, IsBound, IsOpeningBound}
use Rattle.proof_tree.specs.Evidence.{is_cut_short, ClosedByOverfull, ClosedByCrowd}
use Rattle.proof_tree.specs.Plans.{IsStatedDesign, IsValidPlan}
use Rattle.proof_tree.specs.Triangle.{arc, link}
use Rattle.proof_tree.specs.OneLink.{six, one_link, two_modules, unit_plan, loads_plan}
use Rattle.proof_tree.proofs.WorkedPaths.{same_arc, one_arc-permitted, only_arc, below_one, below_two}
use Rattle.proof_tree.proofs.WorkedPlans.{optimal-valid}
use Rattle.proof_tree.proofs.TriangleLaws.{nothing_free, nothing_left, from_nothing}
use Rattle.proof_tree.proofs.OpeningLaws.{count_of, worth_step, start_price}

-- the design with two modules is feasible and in shape, and costs 10
pub two_modules-stated : IsStatedDesign one_link 10_000_000_000_000 two_modules
unfolding design_fault demand_path_fault path_fault step_fault counts_fault carries_fault load_from
two_modules-stated = record { good = IsGoodDesign-design_fault one_link two_modules refl; cost_is = refl }

-- the unit of costs is 5
pub unit : IsUnit one_link 5_000_000_000_000
unit = record {
  divisor = 5_000_000_000_000;
  is_greatest = record { divides = record { modules = modules; routing = routing }; greatest = λ other divides. divides.modules 0 0 (lit< tt) (lit< tt) };
  is_unit = refl;
}
  where
    modules : (e m : ℕ) → e < 1 → m < length (link_at one_link e).modules → IsMultiple 5_000_000_000_000 (module_at (link_at one_link e) m).cost
    modules zero zero below within = (1, refl)
    modules zero (suc m) below within = absurd (let bad : suc m < 1 = within in omega arith)
    modules (suc e) m below within = absurd (omega arith)

    routing : (e k : ℕ) → e < 1 → k < 2 → IsMultiple 5_000_000_000_000 ((link_at one_link e).routing * (demand_at one_link k).load)
    routing zero zero below within = (0, refl)
    routing zero (suc zero) below within = (0, refl)
    routing zero (suc (suc k)) below within = absurd (omega arith)
    routing (suc e) k below within = absurd (omega arith)

-- The only path.

leaving_a : (n : ℕ) → IsTrue (is_arc one_link (arc n)) → (tail_of one_link (arc n)).0 ≡ 0 → n ≡ 0
leaving_a zero is tail = refl
leaving_a (suc zero) is tail = absurd (let bad : 1 ≡ 0 = tail in omega arith)
leaving_a (suc (suc n)) is tail = absurd (let below : suc (suc n) / 2 < 1 = ltb-true _ _ (and-first _ _ is) in omega arith)

one_path : (arcs : List ArcId) → IsSimplePath one_link six arcs → arcs ≡ arc 0 ∷ []
one_path arcs h =
    only_arc one_link none_forbidden 0 0 (λ same. (let bad : 0 ≡ 1 = same in omega arith)) refl
    (λ a rest path. same_arc a 0 (leaving_a a.0 (path.simple.are_arcs 0 (omega arith)) (path.simple.goes_on 0 (omega arith))))
    arcs (record { simple = h; permitted = λ i d within. refl })

-- the path over the link is permitted to the first demand
pub permitted : IsPermittedPath one_link none_forbidden 0 (arc 0 ∷ [])
unfolding path_fault step_fault
permitted = one_arc-permitted one_link none_forbidden 0 0 refl refl

-- the path over the link is permitted to the second demand
pub also_permitted : IsPermittedPath one_link none_forbidden 1 (arc 0 ∷ [])
unfolding path_fault step_fault
also_permitted = one_arc-permitted one_link none_forbidden 1 0 refl refl

only : (k : ℕ) → k < 2 → IsOnlyPath one_link none_forbidden k (path_at two_modules k)
only = below_two (λ k. IsOnlyPath one_link none_forbidden k (path_at two_modules k)) (record { permitted = permitted; only = λ others h. one_path others h.simple }) (record { permitted = also_permitted; only = λ others h. one_path others h.simple })

-- each demand's least price is that of the link
are_least : (price k : ℕ) → k < 2 → IsLeastPrice one_link none_forbidden (price ∷ []) k price
are_least price zero below = record { path = arc 0 ∷ []; permitted = permitted; attained = omega arith; least = λ other h. subst (λ (arcs : List ArcId). price ≤ price_of one_link (price ∷ []) arcs) (sym (one_path other h.simple)) (omega arith) }
are_least price (suc zero) below = record { path = arc 0 ∷ []; permitted = also_permitted; attained = omega arith; least = λ other h. subst (λ (arcs : List ArcId). price ≤ price_of one_link (price ∷ []) arcs) (sym (one_path other h.simple)) (omega arith) }
are_least price (suc (suc k)) below = absurd (omega arith)

within_limit : (price : ℕ) → price ≤ 500_000_000 → AreWithinLimit one_link (price ∷ [])
within_limit price few = All-cons (λ x. x ≤ price_limit one_link) price [] (let limit : 500_000_000 ≤ price_limit one_link = lit≤ tt in omega arith) (All-nil (λ x. x ≤ price_limit one_link))

-- The bound at the start price.

-- a bound where the link alone has this price, from its value
bound_at : (ranges : List LoadRange) (price : ℕ) (value bound : ℤ) → IsLinkValue one_link 0 (ranges_of_link one_link ranges 0) price 0 value
    → IsThousandthUp (pos (price_total one_link (λ k. price)) +ℤ int_sum_below (λ e. value) 1) bound → IsBound one_link (record (whole one_link) { ranges = ranges }) (price ∷ []) bound
bound_at ranges price value bound is rounded = record {
  least_prices = λ k. price;
  values = λ e. value;
  are_least = are_least price;
  are_values = below_one (λ e. IsLinkValue one_link e (ranges_of_link one_link ranges e) (slice_index (price ∷ []) e) 0 value) is;
  rounded = rounded;
}

start_bound : IsBound one_link (whole one_link) (500_000_000 ∷ []) (pos 6_000_000_000_000)
start_bound =
    bound_at (whole_ranges one_link) 500_000_000 (pos 0) (pos 6_000_000_000_000)
    (nothing_left one_link 0 500_000_000 _ (nothing_free 0 1 5_000_000_000_000) (from_nothing 12_000_000) (from_nothing 0) (λ x y c within is. worth_step 0 1 5_000_000_000_000 500_000_000 x y c refl is))
    (record { reaches = omega (arith, ints); least = λ other h. omega (arith, ints) })

-- the opening bound of the instance with one link is 6
pub one_link-opening : IsOpeningBound one_link (pos 6_000_000_000_000)
one_link-opening = record { prices = 500_000_000 ∷ []; are_start = record { count = refl; each = start }; is_bound = start_bound }
  where
    start : (q : ℕ) → q < 1 → IsStartPrice one_link (link_at one_link q) (slice_index (500_000_000 ∷ []) q)
    start zero below = start_price 2 _ _ 0 1 5_000_000_000_000 500_000_000 refl (lit≤ tt) (lit≤ tt)
    start (suc q) below = absurd (omega arith)

-- the plan with one leaf, whose bound is above the cost less the unit, is valid
pub unit_plan-valid : IsValidPlan one_link unit_plan
unit_plan-valid =
    optimal-valid one_link 10_000_000_000_000 two_modules 1 unit_plan.tree two_modules-stated (record { examined_is = refl; within_budget = lit≤ tt; closed = refl })
    (record { within_limit = within_limit 500_000_000 (lit≤ tt); bound = pos 6_000_000_000_000; is_bound = start_bound; unit = 5_000_000_000_000; is_unit = unit; enough = omega (arith, ints) }, tt)

-- The leaves of the plan whose loads are split.

abbrev low_region : Region
low_region = up_to (whole one_link) 0 10_000_000

abbrev high_region : Region
high_region = above (whole one_link) 0 10_000_000

-- both demands are more than 5
lowest_overfull : ClosedByOverfull one_link (up_to low_region 0 5_000_000) (record { 0 = 0 })
unfolding load_from
lowest_overfull = record {
  routing = two_modules;
  only = only;
  is_link = lit< tt;
  overfull = inr outside;
}
  where
    outside : AreInRange one_link (up_to low_region 0 5_000_000).ranges two_modules 0 → ⊥
    outside h = (let few : 12_000_000 ≤ 5_000_000 = h.there.few in omega arith)

-- both demands are more than 10
low_crowd : ClosedByCrowd one_link (above low_region 0 5_000_000) (1 ∷ [])
low_crowd = record {
  within_limit = within_limit 1 (lit≤ tt);
  free = free;
  least_prices = λ k. 1;
  are_least = are_least 1;
  crowded = lit< tt;
}
  where
    free : (q : ℕ) → q < 1 → IsTrue (is_useful (link_at one_link q)) → is_cut_short one_link (above low_region 0 5_000_000).ranges q ≡ false → slice_index (1 ∷ []) q ≡ 0
    free zero below useful ends = absurd (let bad : true ≡ false = ends in cc)
    free (suc q) below useful ends = absurd (omega arith)

-- two modules carry both demands, and above 10 no load costs less
two_carry : IsStepCostOn Any (link 0 1 5_000_000_000_000) 12_000_000 0 10_000_000_000_000
two_carry = record {
  module_cost = 10_000_000_000_000;
  is_least = record {
    counts = 2 ∷ [];
    carries = record { count = refl; enough = lit≤ tt; lawful = tt };
    attained = refl;
    least = at_least;
  };
  is_sum = refl;
}
  where
    at_least : (counts : List ℕ) → CarriesOn Any (link 0 1 5_000_000_000_000) 12_000_000 counts → 10_000_000_000_000 ≤ module_cost_with (link 0 1 5_000_000_000_000) counts
    at_least [] carries = absurd (let bad : 0 ≡ 1 = carries.count in omega arith)
    at_least (n ∷ counts) carries = (let enough : 12_000_000 ≤ 0 + (0 + n * 10_000_000) = carries.enough in let cost : 10_000_000_000_000 ≤ 0 + n * 5_000_000_000_000 = omega arith in cost)

dear_above : (load back c : ℕ) → 10_000_001 ≤ load → IsStepCostOn Any (link 0 1 5_000_000_000_000) load back c → 10_000_000_000_000 ≤ c
dear_above load back c many is =
    let found = count_of 0 1 5_000_000_000_000 (max load back) is.module_cost is.is_least in
    let sum : c ≡ 0 * (load + back) + is.module_cost = is.is_sum in
    omega (arith, found.enough, found.is_cost, sum)

high_bound : IsBound one_link high_region (0 ∷ []) (pos 10_000_000_000_000)
high_bound =
    bound_at high_region.ranges 0 (pos 10_000_000_000_000_000) (pos 10_000_000_000_000)
    (record {
      load = 12_000_000;
      back = 0;
      give = record { in_range = record { enough = lit≤ tt; few = lit≤ tt }; back_in_range = record { enough = lit≤ tt; few = lit≤ tt }; cost = 10_000_000_000_000; is_cost = two_carry; attained = refl };
      least = λ other other_back c in_range back_in_range is. (let dear = dear_above other other_back c in_range.enough is in omega (arith, ints));
    })
    (record { reaches = omega (arith, ints); least = λ other h. omega (arith, ints) })

-- the plan that splits the loads of the link at 10 is valid
pub loads_plan-valid : IsValidPlan one_link (loads_plan 10_000_000)
loads_plan-valid =
    optimal-valid one_link 10_000_000_000_000 two_modules 5 (loads_plan 10_000_000).tree two_modules-stated (record { examined_is = refl; within_budget = lit≤ tt; closed = refl }) (
      record { is_place = lit< tt; some_left = lit≤ tt; some_right = lit< tt },
      (
        record { is_place = lit< tt; some_left = lit≤ tt; some_right = lit< tt },
        (
          lowest_overfull,
          (
            low_crowd,
            (record { within_limit = within_limit 0 (lit≤ tt); bound = pos 10_000_000_000_000; is_bound = high_bound; unit = 5_000_000_000_000; is_unit = unit; enough = omega (arith, ints) }, tt),
          ),
        ),
      ),
    )

-- no load is above the most of the range
pub loads_at_most-refused : IsValidPlan one_link (loads_plan 12_000_000) → ⊥
loads_at_most-refused valid = (let bad : 12_000_000 < 12_000_000 = valid.tree.0.some_right in omega arith)
