-- The first of the least candidates gives the least value of a link under its ranges, at its first loads.
use Rattle.std.proofs.Common.{◌≡◌, ℕ, ◌+◌, ◌*◌, ◌<◌, ◌≤◌, inl, inr, Bool, true, false, min, max, List, length, nat_lt, if◌then◌else◌, refl, sym, subst, arith}
use Rattle.std.specs.Prelude.{ℤ, pos, ◌-ℤ◌, ◌≤ℤ◌, ◌<ℤ◌}
use Rattle.std.proofs.Math.Nat.{mul-le-mul_left}
use Rattle.std.proofs.lemmas.Bool.{ltb-true, ltb-false, le-ltb}
use Rattle.std.proofs.lemmas.Int.{ints}
use Rattle.plan_base.specs.declared.parts.Link.{Link}
use Rattle.plan_base.specs.declared.parts.Parts.{Parts}
use Rattle.plan_base.specs.Arcs.{link_at}
use Rattle.plan_base.specs.Facts.{total_load}
use Rattle.plan_base.specs.declared.limits.TheConstants.{MAX_ROUTING_COST, MAX_PRICED_LOAD}
use Rattle.link_steps.specs.declared.range.LoadRange.{LoadRange}
use Rattle.link_steps.specs.declared.range.LinkRanges.{LinkRanges}
use Rattle.link_steps.specs.declared.reading.LinkValue.{LinkValue}
use Rattle.link_steps.specs.declared.step.Step.{Step}
use Rattle.link_steps.specs.Values.{value_at, IsLinkValue, AreLinkRanges, AreFirstLoads}
use Rattle.link_steps.specs.Steps.{step_at, AreInOrder, AreAllSteps}
use Rattle.link_steps.specs.Candidates.{load_up_to, candidate, IsFirstBest, IsSmall, IsBestLoad, IsBestUpTo, IsFirstLeast}
use Rattle.link_steps.proofs.Order.{before_or_last}
use Rattle.link_steps.proofs.FirstLeast.{gap, strict-gap, net-no_more, le-trans, under, below-old, cost-le-later, best-no_more, AreMet, IsFirstLeast-value}
use Rattle.link_steps.proofs.NetValues.{value-price, loads-price}

-- As candidates are looked at.

-- link values with the same value and the same loads are the same
pub same-parts : (v w : ℤ) (load back other other_back : ℕ) → v ≡ w → load ≡ other → back ≡ other_back → ◌≡◌ {A = LinkValue} (record { value = v; load = load; back = back }) (record { value = w; load = other; back = other_back })
same-parts v w load back other other_back value_is load_is back_is = rw (value_is, load_is, back_is) refl

-- the value of a candidate, of numbers that are known by equations
pub value-same : (price back_price cost r load back routing one other first second : ℕ) → routing ≡ r → one ≡ load → other ≡ back → first ≡ load → second ≡ back
    → (pos (1000 * (routing * (one + other) + cost)) -ℤ pos (price * first + back_price * second)) ≡ value_at price back_price load back (r * (load + back) + cost)
value-same price back_price cost r load back routing one other first second r_is one_is other_is first_is second_is = rw (r_is, one_is, other_is, first_is, second_is) refl

-- the candidate of one step is the first of the least candidates of that step alone
pub IsFirstBest-first : (l : Link) (ranges : LinkRanges) (price back_price : ℕ) (steps : List Step) (from : ℕ) (best : LinkValue) → best ≡ candidate l ranges price back_price (step_at steps from)
    → IsFirstBest l ranges price back_price steps from (from + 1) best
IsFirstBest-first l ranges price back_price steps from best is =
    record {
      place = from;
      enough = omega arith;
      below = omega arith;
      is = is;
      least = λ i enough below. (let same : i ≡ from = omega arith in rw (same, is) (le-self (candidate l ranges price back_price (step_at steps from)).value));
      first = λ i enough before. absurd (omega arith);
    }
  where
    le-self : (v : ℤ) → v ≤ℤ v
    le-self v = omega (arith, ints)

-- what is at most the value of a candidate
at-place : (l : Link) (ranges : LinkRanges) (price back_price : ℕ) (steps : List Step) (n i : ℕ) (v : ℤ) (other : LinkValue) → i ≡ n → other ≡ candidate l ranges price back_price (step_at steps n) → v ≤ℤ other.value
    → v ≤ℤ (candidate l ranges price back_price (step_at steps i)).value
at-place l ranges price back_price steps n i v other same is le =
    subst (λ (k : ℕ). v ≤ℤ (candidate l ranges price back_price (step_at steps k)).value) (sym same) (subst (λ (c : LinkValue). v ≤ℤ c.value) is le)

-- the best stays
pub IsFirstBest-kept : (l : Link) (ranges : LinkRanges) (price back_price : ℕ) (steps : List Step) (from n : ℕ) (best other : LinkValue) → other ≡ candidate l ranges price back_price (step_at steps n)
    → best.value ≤ℤ other.value → IsFirstBest l ranges price back_price steps from n best → IsFirstBest l ranges price back_price steps from (n + 1) best
IsFirstBest-kept l ranges price back_price steps from n best other is no_better before =
    record {
      place = before.place;
      enough = before.enough;
      below = omega (arith, before.below);
      is = before.is;
      least = λ i enough below. elim (before_or_last i n below) [ inl old ↦ before.least i enough old | inr new ↦ at-place l ranges price back_price steps n i best.value other new is no_better ];
      first = before.first;
    }

-- a better one is taken
pub IsFirstBest-taken : (l : Link) (ranges : LinkRanges) (price back_price : ℕ) (steps : List Step) (from n : ℕ) (best other : LinkValue) → other ≡ candidate l ranges price back_price (step_at steps n)
    → other.value <ℤ best.value → from ≤ n → IsFirstBest l ranges price back_price steps from n best → IsFirstBest l ranges price back_price steps from (n + 1) other
IsFirstBest-taken l ranges price back_price steps from n best other is better from_on before =
    record {
      place = n;
      enough = from_on;
      below = omega arith;
      is = is;
      least = λ i enough below. elim (before_or_last i n below) [ inl old ↦ under other.value best.value _ better (before.least i enough old) | inr new ↦ at-place l ranges price back_price steps n i other.value other new is (le-self other.value) ];
      first = λ i enough earlier. below-old other.value best.value _ better (before.least i enough earlier);
    }
  where
    le-self : (v : ℤ) → v ≤ℤ v
    le-self v = omega (arith, ints)

-- The best load of a place.

best-load : (l : Link) (price : ℕ) (range : LoadRange) (reach : ℕ) → range.least ≤ range.most → range.least ≤ reach → IsBestLoad (1000 * l.routing) (λ x. price * x) range reach (load_up_to l price range reach)
best-load l price range reach some reached = by_cases (nat_lt (1000 * l.routing) price) refl
  where
    by_cases : (b : Bool) → nat_lt (1000 * l.routing) price ≡ b → IsBestLoad (1000 * l.routing) (λ x. price * x) range reach (if b then min reach range.most else range.least)
    by_cases true is =
        let dear : 1000 * l.routing < price = ltb-true _ _ is in
        record {
          in_range = record { enough = omega arith; few = omega arith };
          reached = omega arith;
          no_more = λ x in_range le. gap (1000 * l.routing) price x (min reach range.most) (omega arith) (omega (arith, in_range.few));
          less = λ x in_range le lt. strict-gap (1000 * l.routing) price x (min reach range.most) dear lt;
        }
    by_cases false is =
        let cheap : price ≤ 1000 * l.routing = ltb-false _ _ is in
        record {
          in_range = record { enough = omega arith; few = some };
          reached = reached;
          no_more = λ x in_range le. (let more = gap price (1000 * l.routing) range.least x cheap in_range.enough in omega arith);
          less = λ x in_range le lt. absurd (omega (arith, in_range.enough));
        }

-- Small numbers.

-- where loads in a range cost little, a load up to its most costs little by routing
pub routing-small : (l : Link) (price : ℕ) (range : LoadRange) (load : ℕ) → IsSmall l price range → load ≤ range.most → l.routing * load ≤ MAX_ROUTING_COST
routing-small l price range load small few = omega (arith, small.routing, mul-le-mul_left l.routing few)

-- where loads in a range cost little, a load up to its most costs little by its price
pub priced-small : (l : Link) (price : ℕ) (range : LoadRange) (load : ℕ) → IsSmall l price range → load ≤ range.most → price * load ≤ MAX_PRICED_LOAD
priced-small l price range load small few = omega (arith, small.priced, mul-le-mul_left price few)

-- where a price is not above the routing costs, the least load is best
load_up_to-level : (l : Link) (price : ℕ) (range : LoadRange) (reach : ℕ) → price ≤ 1000 * l.routing → load_up_to l price range reach ≡ range.least
load_up_to-level l price range reach level = rw (le-ltb (1000 * l.routing) price level) refl

-- so where both are not, the first candidate is
pub IsFirstBest-level : (l : Link) (ranges : LinkRanges) (price back_price : ℕ) (steps : List Step) (from to : ℕ) (best : LinkValue) → price ≤ 1000 * l.routing → back_price ≤ 1000 * l.routing
    → AreInOrder steps → from < to → to ≤ length steps → best ≡ candidate l ranges price back_price (step_at steps from) → IsFirstBest l ranges price back_price steps from to best
IsFirstBest-level l ranges price back_price steps from to best level back_level in_order some within is =
    rw is (record {
      place = from;
      enough = omega arith;
      below = some;
      is = refl;
      least = λ i enough below.
          rw (
            load_up_to-level l price ranges.there (step_at steps from).reach level,
            load_up_to-level l back_price ranges.back (step_at steps from).reach back_level,
            load_up_to-level l price ranges.there (step_at steps i).reach level,
            load_up_to-level l back_price ranges.back (step_at steps i).reach back_level,
          )
          (net-no_more l.routing ranges.there.least ranges.back.least ranges.there.least ranges.back.least
          (price * ranges.there.least) (back_price * ranges.back.least) (price * ranges.there.least) (back_price * ranges.back.least)
          (step_at steps i).cost (step_at steps from).cost (omega arith) (omega arith) (cost-le-later steps from i in_order enough (omega (arith, below, within))));
      first = λ i enough before. absurd (omega arith);
    })

-- The least value.

-- a candidate is best up to its step
candidate-best : (l : Link) (ranges : LinkRanges) (price back_price : ℕ) (step : Step) → ranges.there.least ≤ ranges.there.most → ranges.back.least ≤ ranges.back.most → max ranges.there.least ranges.back.least ≤ step.reach
    → IsBestUpTo l ranges (λ x. price * x) (λ x. back_price * x) step (candidate l ranges price back_price step)
candidate-best l ranges price back_price step some back_some reached =
    record { there = best-load l price ranges.there step.reach some (omega arith); other = best-load l back_price ranges.back step.reach back_some (omega arith); value = refl }

-- so the first of the least candidates is the first least
IsFirstBest-least : (p : Parts) (e : ℕ) (ranges : LinkRanges) (price back_price : ℕ) (steps : List Step) (from to : ℕ) (best : LinkValue) → AreLinkRanges p e ranges → AreMet steps ranges from to
    → IsFirstBest (link_at p e) ranges price back_price steps from to best → IsFirstLeast (link_at p e) ranges (λ x. price * x) (λ x. back_price * x) steps from to best
IsFirstBest-least p e ranges price back_price steps from to best in_ranges met is =
    let l = link_at p e in
    let up_to : (i : ℕ) → from ≤ i → i < to → IsBestUpTo l ranges (λ x. price * x) (λ x. back_price * x) (step_at steps i) (candidate l ranges price back_price (step_at steps i)) =
    λ i enough below. candidate-best l ranges price back_price (step_at steps i) in_ranges.there.some in_ranges.other.some (met.reached i enough below) in
    record {
      place = is.place;
      enough = is.enough;
      below = is.below;
      is = subst (λ (b : LinkValue). IsBestUpTo l ranges (λ x. price * x) (λ x. back_price * x) (step_at steps is.place) b) (sym is.is) (up_to is.place is.enough is.below);
      least = λ i x y enough below reached. le-trans best.value _ _ (is.least i enough below) (best-no_more l ranges (λ x. price * x) (λ x. back_price * x) steps i i x y _ refl (up_to i enough below) reached);
      first = λ i x y enough before reached. below-old best.value _ _ (is.first i enough before) (best-no_more l ranges (λ x. price * x) (λ x. back_price * x) steps i i x y _ refl (up_to i enough (omega (arith, before, is.below))) reached);
    }

-- the least value and its first loads
pub record IsBestValue (p : Parts) (e : ℕ) (ranges : LinkRanges) (price back_price : ℕ) (best : LinkValue) : Type 0 where
  pub value : IsLinkValue p e ranges price back_price best.value
  pub loads : AreFirstLoads p e ranges price back_price best.value best.load best.back

-- the first of the least candidates of the steps that are met gives them
pub IsFirstBest-value : (p : Parts) (e : ℕ) (ranges : LinkRanges) (price back_price : ℕ) (steps : List Step) (from to : ℕ) (best : LinkValue)
    → AreAllSteps p.law (total_load p) (link_at p e) steps → AreLinkRanges p e ranges → AreMet steps ranges from to → IsFirstBest (link_at p e) ranges price back_price steps from to best → IsBestValue p e ranges price back_price best
IsFirstBest-value p e ranges price back_price steps from to best are in_ranges met is =
    let found = IsFirstLeast-value p e ranges (λ x. price * x) (λ x. back_price * x) steps from to best are in_ranges met (IsFirstBest-least p e ranges price back_price steps from to best in_ranges met is) in
    record {
      value = value-price p e ranges price back_price (λ x. price * x) (λ x. back_price * x) (λ x. refl) (λ x. refl) best.value found.value;
      loads = loads-price p e ranges price back_price (λ x. price * x) (λ x. back_price * x) (λ x. refl) (λ x. refl) best.value best.load best.back found.loads;
    }

-- the first of the least candidates, as the steps are looked at: the first one, one that stays, and one that is taken
pub ruleset first_bests = (IsFirstBest-first, IsFirstBest-kept, IsFirstBest-taken)

-- loads up to the most of a range whose loads cost little cost little, by routing and by price
pub ruleset small_loads = (routing-small, priced-small)
