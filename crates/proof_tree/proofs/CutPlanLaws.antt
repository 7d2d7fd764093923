-- A plan whose one leaf is closed by a cut is valid, and without the cut it is not.
use Rattle.std.proofs.Common.{◌≡◌, ℕ, zero, suc, ◌+◌, ◌-◌, ◌*◌, ◌/◌, ◌%◌, ◌<◌, ◌≤◌, max, min, true, false, [], ◌∷◌, slice_index, refl, arith, lit≤, lit<}
use Rattle.std.specs.Prelude.{ℤ, pos, ◌+ℤ◌, ◌≤ℤ◌, ◌<ℤ◌}
use Rattle.std.specs.List.{sum_by}
use Rattle.std.proofs.lemmas.Int.{ints}
use Rattle.std.proofs.lemmas.List.Elements.{All-nil, All-cons}
use Rattle.std.proofs.lemmas.List.Sums.{sum_by-cons}
use Rattle.plan_base.specs.declared.parts.CountLaw.TheVariants.{Any}
use Rattle.plan_base.specs.Facts.{price_limit}
use Rattle.plan_base.specs.Arcs.{link_at}
use Rattle.link_steps.specs.declared.rated.Rated.{Rated}
use Rattle.link_steps.specs.Costs.{IsStepCostOn}
use Rattle.link_steps.specs.Ranges.{whole_ranges}
use Rattle.link_steps.specs.Tallies.{tally, IsTally, part, worth}
use Rattle.link_steps.specs.WorthValues.{net_value}
use Rattle.link_steps.proofs.TallyLaws.{tally-rise}
use Rattle.arc_restrict.specs.Restrictions.{none_forbidden}
use Rattle.arc_restrict.specs.Prices.{AreWithinLimit, IsLeastPrice}
use Rattle.proof_tree.specs.Cuts.{cut_at, IsCut, IsCutList}
use Rattle.proof_tree.specs.Regions.{whole}
use Rattle.proof_tree.specs.Bounds.{IsThousandthUp}
use Rattle.proof_tree.specs.RatedBounds.{crossing_rates, IsRatedValue}
use Rattle.proof_tree.specs.RatedEvidence.{AreLawfulNumbers, IsBoundAt, ClosedByRatedBound}
use Rattle.proof_tree.specs.Plans.{IsValidPlan}
use Rattle.proof_tree.specs.Triangle.{arc, link}
use Rattle.proof_tree.specs.OneLink.{one_link}
use Rattle.proof_tree.specs.WorkedCuts.{cut_of_a, cut_plan, without_cut, cut_numbers}
use Rattle.proof_tree.proofs.TriangleLaws.{nothing_free, from_nothing}
use Rattle.proof_tree.proofs.OpeningLaws.{count_of}
use Rattle.proof_tree.proofs.OneLinkLaws.{two_modules-stated, unit, permitted, also_permitted}
use Rattle.proof_tree.proofs.UnitLaws.{unit-unique}
use Rattle.proof_tree.proofs.RatedUniqueness.{rated_bound-unique}

-- the cut as the link sees it
abbrev counted : Rated
counted = record { batch = record { period = 10_000_000; first = 2_000_000; before = 0; rest = 12_000_000 }; rate = 2_500_000_000 }

-- a load that so many modules carry has at most so many counted
few-counted : (n load : ℕ) → load ≤ n * 10_000_000 → tally 10_000_000 2_000_000 load ≤ 2_000_000 * n
few-counted n load le =
    let is : IsTally 10_000_000 2_000_000 = record { some = lit≤ tt; within = lit≤ tt } in
    let rise = tally-rise 10_000_000 2_000_000 load (n * 10_000_000) is le in
    let whole : n * 10_000_000 / 10_000_000 ≡ n = omega arith in
    let rest : n * 10_000_000 % 10_000_000 ≡ 0 = omega arith in
    omega (arith, rise, whole, rest)

-- no load is worth more than its modules
no_gain : (load back c : ℕ) → IsStepCostOn Any (link 0 1 5_000_000_000_000) load back c → pos 0 ≤ℤ net_value (worth 0 (counted ∷ [])) (worth 0 []) load back c
no_gain load back c is =
    let found = count_of 0 1 5_000_000_000_000 (max load back) is.module_cost is.is_least in
    let sum : c ≡ 0 * (load + back) + is.module_cost = is.is_sum in
    let few = few-counted found.count (min (load - 0) 12_000_000) (let enough = found.enough in omega (arith, enough)) in
    let one = sum_by-cons (λ (r : Rated). r.rate * part r.batch load) counted [] in
    crosswise (sum_by (λ (r : Rated). r.rate * part r.batch load) (counted ∷ [])) (part counted.batch load) found.count c one few (let same = found.is_cost in omega (arith, same, sum))
  where
    crosswise : (w u n d : ℕ) → w ≡ 2_500_000_000 * u + 0 → u ≤ 2_000_000 * n → d ≡ n * 5_000_000_000_000 → pos 0 ≤ℤ net_value (λ x. 0 * x + w) (worth 0 []) load back d
    crosswise w u n d one few same = omega (arith, ints)

rated_value : (e : ℕ) → e < 1 → IsRatedValue one_link (cut_of_a ∷ []) (whole_ranges one_link) cut_numbers (2_500_000_000 ∷ []) e (pos 0)
rated_value zero below = record {
  load = 0;
  back = 0;
  give = record { in_range = from_nothing 12_000_000; back_in_range = from_nothing 0; cost = 0; is_cost = nothing_free 0 1 5_000_000_000_000; attained = refl };
  least = λ other other_back c in_range back_in_range is. no_gain other other_back c is;
}
rated_value (suc e) below = absurd (omega arith)

least_price : (k : ℕ) → k < 2 → IsLeastPrice one_link none_forbidden cut_numbers k 0
least_price zero below = record { path = arc 0 ∷ []; permitted = permitted; attained = refl; least = λ other h. omega arith }
least_price (suc zero) below = record { path = arc 0 ∷ []; permitted = also_permitted; attained = refl; least = λ other h. omega arith }
least_price (suc (suc k)) below = absurd (omega arith)

ten : IsThousandthUp (pos 10_000_000_000_000_000) (pos 10_000_000_000_000)
ten = record { reaches = omega (arith, ints); least = λ other h. omega (arith, ints) }

cut_bound : IsBoundAt one_link (cut_of_a ∷ []) (whole one_link) cut_numbers (pos 10_000_000_000_000)
cut_bound = record { least_prices = λ k. 0; values = λ e. pos 0; are_least = least_price; are_values = rated_value; rounded = ten }

lawful : AreLawfulNumbers one_link (cut_of_a ∷ []) cut_numbers
lawful = record {
  prices_within = All-cons P 0 (2_500_000_000 ∷ []) (lit≤ tt) rate_within;
  rates_within = rate_within;
  each = λ q below. record { within_limit = limit q below; cover_routing = cover q below };
}
  where
    P : ℕ → Type 0
    P x = x ≤ price_limit one_link

    rate_within : AreWithinLimit one_link (2_500_000_000 ∷ [])
    rate_within = All-cons (λ x. x ≤ price_limit one_link) 2_500_000_000 [] (lit≤ tt) (All-nil (λ x. x ≤ price_limit one_link))

    limit : (q : ℕ) → q < 1 → slice_index cut_numbers q + crossing_rates one_link (cut_of_a ∷ []) (2_500_000_000 ∷ []) q ≤ price_limit one_link
    limit zero below = lit≤ tt
    limit (suc q) below = absurd (omega arith)

    cover : (q : ℕ) → q < 1 → 0 < crossing_rates one_link (cut_of_a ∷ []) (2_500_000_000 ∷ []) q → 1000 * (link_at one_link q).routing ≤ slice_index cut_numbers q
    cover zero below positive = lit≤ tt
    cover (suc q) below positive = absurd (omega arith)

closed : ClosedByRatedBound one_link (cut_of_a ∷ []) (whole one_link) cut_numbers 10_000_000_000_000
closed = record { lawful = lawful; bound = pos 10_000_000_000_000; is_bound = cut_bound; unit = 5_000_000_000_000; is_unit = unit; enough = omega (arith, ints) }

one_cut : IsCutList one_link (cut_of_a ∷ [])
one_cut = record { few = lit≤ tt; are_cuts = are_cuts; different = λ i j less below same. absurd (let none : j < 1 = below in omega (arith, none, less)) }
  where
    are_cuts : (i : ℕ) → i < 1 → IsCut one_link (cut_at (cut_of_a ∷ []) i)
    are_cuts zero below = record { count = refl; some = (0, true, lit< tt, refl, refl); not_all = (1, false, lit< tt, refl, refl); is_tally = record { some = lit≤ tt; within = lit≤ tt }; small = lit≤ tt }
    are_cuts (suc i) below = absurd (omega arith)

-- the plan with one leaf that a cut closes is valid
pub cut_plan-valid : IsValidPlan one_link cut_plan
cut_plan-valid = record {
  sizes = record { nodes = refl; links = refl; demands = refl; both = refl };
  examined = refl;
  cuts = one_cut;
  design = two_modules-stated;
  tree = (closed, tt);
  status = record { design = refl; closed = refl; within_budget = lit≤ tt };
}

-- Without the cut the bound is 0.

plain_value : (e : ℕ) → e < 1 → IsRatedValue one_link [] (whole_ranges one_link) cut_numbers (2_500_000_000 ∷ []) e (pos 0)
plain_value zero below = record {
  load = 0;
  back = 0;
  give = record { in_range = from_nothing 12_000_000; back_in_range = from_nothing 0; cost = 0; is_cost = nothing_free 0 1 5_000_000_000_000; attained = refl };
  least = λ other other_back c in_range back_in_range is. free other other_back c;
}
  where
    free : (x y c : ℕ) → pos 0 ≤ℤ net_value (worth 0 []) (worth 0 []) x y c
    free x y c = omega (arith, ints)
plain_value (suc e) below = absurd (omega arith)

nothing : IsThousandthUp (pos 0) (pos 0)
nothing = record { reaches = omega (arith, ints); least = λ other h. omega (arith, ints) }

plain_bound : IsBoundAt one_link [] (whole one_link) cut_numbers (pos 0)
plain_bound = record { least_prices = λ k. 0; values = λ e. pos 0; are_least = least_price; are_values = plain_value; rounded = nothing }

-- the same plan without the cut is not valid
pub cut_plan-refused : IsValidPlan one_link without_cut → ⊥
cut_plan-refused valid =
    let closed : ClosedByRatedBound one_link [] (whole one_link) cut_numbers 10_000_000_000_000 = valid.tree.0 in
    let bound = rated_bound-unique one_link [] (whole one_link) cut_numbers (2_500_000_000 ∷ []) closed.bound (pos 0) closed.is_bound plain_bound in
    let same = unit-unique one_link closed.unit 5_000_000_000_000 closed.is_unit unit in
    too_low closed.bound closed.unit bound same closed.enough
  where
    too_low : (b : ℤ) (u : ℕ) → b ≡ pos 0 → u ≡ 5_000_000_000_000 → pos 10_000_000_000_000 <ℤ (b +ℤ pos u) → ⊥
    too_low b u none same enough = omega (arith, ints)
