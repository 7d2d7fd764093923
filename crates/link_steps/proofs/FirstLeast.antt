-- Loads that are best at a step, where no loads give less at a step that reaches them, give the least net value of a link, and are the first.
use Rattle.std.proofs.Common.{◌≡◌, ℕ, ◌+◌, ◌-◌, ◌*◌, ◌<◌, ◌≤◌, ◌⊎◌, inl, inr, max, List, length, refl, sym, subst, arith}
use Rattle.std.specs.Prelude.{ℤ, pos, ◌-ℤ◌, ◌≤ℤ◌, ◌<ℤ◌}
use Rattle.std.proofs.Math.Nat.{mul-le-mul_right}
use Rattle.std.proofs.lemmas.Int.{ints}
use Rattle.plan_base.specs.declared.parts.Parts.{Parts}
use Rattle.plan_base.specs.declared.parts.Link.{Link}
use Rattle.plan_base.specs.Arcs.{link_at}
use Rattle.plan_base.specs.Facts.{total_load, top_load}
use Rattle.plan_base.proofs.TopLoads.{top-le}
use Rattle.link_steps.specs.declared.range.LinkRanges.{LinkRanges}
use Rattle.link_steps.specs.declared.reading.LinkValue.{LinkValue}
use Rattle.link_steps.specs.declared.step.Step.{Step}
use Rattle.link_steps.specs.Costs.{IsLeastModuleCostOn}
use Rattle.link_steps.specs.Ranges.{IsIn}
use Rattle.link_steps.specs.Values.{AreLinkRanges}
use Rattle.link_steps.specs.WorthValues.{net_value, GiveNetValue, IsLeastNetValue, AreFirstNetLoads}
use Rattle.link_steps.specs.Steps.{step_at, AreInOrder, AreAllSteps}
use Rattle.link_steps.specs.Candidates.{IsBestLoad, IsBestUpTo, AreReached, IsFirstLeast}
use Rattle.link_steps.proofs.Order.{either_way, before_or_last}
use Rattle.link_steps.proofs.Reached.{IsFirstReaching, reach-le, first-least, least-unique}
use Rattle.link_steps.proofs.Counted.{carried-reached}
use Rattle.link_steps.proofs.Carrying.{top-can_carry}
use Rattle.link_steps.proofs.Prices.{back-top}

-- more of what is dearer in place of what is cheaper
pub gap : (cheap dear x y : ℕ) → cheap ≤ dear → x ≤ y → cheap * y + dear * x ≤ cheap * x + dear * y
gap cheap dear x y le more =
    let is : x + (y - x) ≡ y = omega arith in
    let product : cheap * (y - x) ≤ dear * (y - x) = mul-le-mul_right (y - x) le in
    subst (λ (n : ℕ). cheap * n + dear * x ≤ cheap * x + dear * n) is (omega (arith, product))

-- strictly more of what is strictly dearer, in place of what is cheaper, makes strictly more
pub strict-gap : (cheap dear x y : ℕ) → cheap < dear → x < y → cheap * y + dear * x < cheap * x + dear * y
strict-gap cheap dear x y lt more =
    let is : x + (y - x) ≡ y = omega arith in
    let product : (cheap + 1) * (y - x) ≤ dear * (y - x) = mul-le-mul_right (y - x) (let le : cheap + 1 ≤ dear = omega arith in le) in
    subst (λ (n : ℕ). cheap * n + dear * x < cheap * x + dear * n) is (omega (arith, product))

-- Values in whole numbers.

-- what is worth no less, after its routing costs, gives no more
pub net-no_more : (r x y best_x best_y worth_x worth_y best_worth_x best_worth_y cost best_cost : ℕ) → 1000 * r * best_x + worth_x ≤ 1000 * r * x + best_worth_x → 1000 * r * best_y + worth_y ≤ 1000 * r * y + best_worth_y → best_cost ≤ cost
    → (pos (1000 * (r * (best_x + best_y) + best_cost)) -ℤ pos (best_worth_x + best_worth_y)) ≤ℤ (pos (1000 * (r * (x + y) + cost)) -ℤ pos (worth_x + worth_y))
net-no_more r x y best_x best_y worth_x worth_y best_worth_x best_worth_y cost best_cost one two le =
    crosswise (1000 * (r * (best_x + best_y) + best_cost)) (best_worth_x + best_worth_y) (1000 * (r * (x + y) + cost)) (worth_x + worth_y) (omega (arith, one, two, le))
  where
    crosswise : (c w o v : ℕ) → c + v ≤ o + w → (pos c -ℤ pos w) ≤ℤ (pos o -ℤ pos v)
    crosswise c w o v h = omega (arith, ints)

net-less : (r x y best_x best_y worth_x worth_y best_worth_x best_worth_y cost best_cost : ℕ) → 1000 * r * best_x + worth_x + (1000 * r * best_y + worth_y) < 1000 * r * x + best_worth_x + (1000 * r * y + best_worth_y) → best_cost ≤ cost
    → (pos (1000 * (r * (best_x + best_y) + best_cost)) -ℤ pos (best_worth_x + best_worth_y)) <ℤ (pos (1000 * (r * (x + y) + cost)) -ℤ pos (worth_x + worth_y))
net-less r x y best_x best_y worth_x worth_y best_worth_x best_worth_y cost best_cost both le =
    crosswise (1000 * (r * (best_x + best_y) + best_cost)) (best_worth_x + best_worth_y) (1000 * (r * (x + y) + cost)) (worth_x + worth_y) (omega (arith, both, le))
  where
    crosswise : (c w o v : ℕ) → c + v < o + w → (pos c -ℤ pos w) <ℤ (pos o -ℤ pos v)
    crosswise c w o v h = omega (arith, ints)

-- a whole number that is at most a second one is at most whatever the second one is at most
pub le-trans : (v w x : ℤ) → v ≤ℤ w → w ≤ℤ x → v ≤ℤ x
le-trans v w x one two = omega (arith, ints)

not-less : (v x : ℤ) → v <ℤ x → x ≡ v → ⊥
not-less v x less same = omega (arith, ints)

-- a whole number below a second one is at most whatever the second one is at most
pub under : (v w x : ℤ) → v <ℤ w → w ≤ℤ x → v ≤ℤ x
under v w x lt le = omega (arith, ints)

-- a whole number below a second one is below whatever the second one is at most
pub below-old : (v w x : ℤ) → v <ℤ w → w ≤ℤ x → v <ℤ x
below-old v w x lt le = omega (arith, ints)

-- a later step costs no less
pub cost-le-later : (steps : List Step) (i j : ℕ) → AreInOrder steps → i ≤ j → j < length steps → (step_at steps i).cost ≤ (step_at steps j).cost
cost-le-later steps i j in_order le within =
    elim (either_way j i) [
      | inl ge ↦ (let same : i ≡ j = omega arith in rw same (omega arith))
      | inr lt ↦ omega (arith, in_order.dearer i j lt within)
    ]

-- As steps are looked at.

module _ (l : Link) (ranges : LinkRanges) (there_worth back_worth : ℕ → ℕ) (steps : List Step) where
  -- what the loads give at the cost of a step
  abbrev pub net_at : ℕ → ℕ → ℕ → ℤ
  net_at i x y = net_value there_worth back_worth x y (l.routing * (x + y) + (step_at steps i).cost)

  -- what is best up to a step is no more than what other loads give there
  pub best-no_more : (n i x y : ℕ) (found : LinkValue) → i ≡ n → IsBestUpTo l ranges there_worth back_worth (step_at steps n) found → AreReached ranges (step_at steps i).reach x y → found.value ≤ℤ net_at i x y
  best-no_more n i x y found same is reached =
      rw (same, is.value)
      (net-no_more l.routing x y found.load found.back (there_worth x) (back_worth y) (there_worth found.load) (back_worth found.back) (step_at steps n).cost (step_at steps n).cost
      (is.there.no_more x reached.in_range (let here = rw same at reached.reached in omega (arith, here))) (is.other.no_more y reached.back_in_range (let here = rw same at reached.reached in omega (arith, here))) (omega arith))

  -- what is best up to one step is the first least of that step alone
  pub IsFirstLeast-first : (from : ℕ) (best : LinkValue) → IsBestUpTo l ranges there_worth back_worth (step_at steps from) best → IsFirstLeast l ranges there_worth back_worth steps from (from + 1) best
  IsFirstLeast-first from best is = record {
    place = from;
    enough = omega arith;
    below = omega arith;
    is = is;
    least = λ i x y enough below reached. best-no_more from i x y best (omega arith) is reached;
    first = λ i x y enough before. absurd (omega arith);
  }

  -- the best stays
  pub IsFirstLeast-kept : (from n : ℕ) (best other : LinkValue) → IsBestUpTo l ranges there_worth back_worth (step_at steps n) other → best.value ≤ℤ other.value → IsFirstLeast l ranges there_worth back_worth steps from n best
      → IsFirstLeast l ranges there_worth back_worth steps from (n + 1) best
  IsFirstLeast-kept from n best other is no_better before = record {
    place = before.place;
    enough = before.enough;
    below = omega (arith, before.below);
    is = before.is;
    least = λ i x y enough below reached. elim (before_or_last i n below) [
      | inl old ↦ before.least i x y enough old reached
      | inr new ↦ le-trans best.value other.value _ no_better (best-no_more n i x y other new is reached)
    ];
    first = before.first;
  }

  -- a better one is taken
  pub IsFirstLeast-taken : (from n : ℕ) (best other : LinkValue) → IsBestUpTo l ranges there_worth back_worth (step_at steps n) other → other.value <ℤ best.value → from ≤ n → IsFirstLeast l ranges there_worth back_worth steps from n best
      → IsFirstLeast l ranges there_worth back_worth steps from (n + 1) other
  IsFirstLeast-taken from n best other is better from_on before = record {
    place = n;
    enough = from_on;
    below = omega arith;
    is = is;
    least = λ i x y enough below reached. elim (before_or_last i n below) [
      | inl old ↦ under other.value best.value _ better (before.least i x y enough old reached)
      | inr new ↦ best-no_more n i x y other new is reached
    ];
    first = λ i x y enough earlier reached. below-old other.value best.value _ better (before.least i x y enough earlier reached);
  }

-- The steps that are met.

-- the steps from one to below another are those that reach the larger of two loads in their ranges first
pub record AreMet (steps : List Step) (ranges : LinkRanges) (from to : ℕ) : Type 0 where
  pub before : (j : ℕ) → j < from → (step_at steps j).reach < max ranges.there.least ranges.back.least
  pub reached : (i : ℕ) → from ≤ i → i < to → max ranges.there.least ranges.back.least ≤ (step_at steps i).reach
  pub within : to ≤ length steps
  pub all : (load i : ℕ) → load ≤ max ranges.there.most ranges.back.most → IsFirstReaching steps load i → i < to

-- they are so where a search for the larger least load and for the larger most load finds them
pub AreMet-found : (p : Parts) (e : ℕ) (ranges : LinkRanges) (steps : List Step) (from last : ℕ) → AreAllSteps p.law (total_load p) (link_at p e) steps → AreLinkRanges p e ranges
    → IsFirstReaching steps (max ranges.there.least ranges.back.least) from → IsFirstReaching steps (max ranges.there.most ranges.back.most) last → AreMet steps ranges from (last + 1)
AreMet-found p e ranges steps from last are in_ranges first final = record {
  before = first.before;
  reached = λ i enough below. omega (arith, first.here, reach-le steps from i are.are_steps.in_order.rising enough (omega (arith, below, final.within)));
  within = omega (arith, final.within);
  all = λ load i few reaching. elim (either_way i last) [ inl le ↦ omega arith | inr lt ↦ absurd (omega (arith, reaching.before last lt, final.here)) ];
}

-- a load up to the top load is reached by some step
met-step : (p : Parts) (e load : ℕ) (steps : List Step) → AreAllSteps p.law (total_load p) (link_at p e) steps → load ≤ top_load p (link_at p e) → (i : ℕ) × IsFirstReaching steps load i
met-step p e load steps are few =
    let carried = top-can_carry p (link_at p e) load few in
    carried-reached (total_load p) (link_at p e) steps load carried.0 are (omega (arith, few, top-le p (link_at p e))) carried.1

-- so a search finds one
found-first : (p : Parts) (e load place : ℕ) (steps : List Step) → AreAllSteps p.law (total_load p) (link_at p e) steps → load ≤ top_load p (link_at p e) → ((j : ℕ) → j < place → (step_at steps j).reach < load)
    → (place < length steps → load ≤ (step_at steps place).reach) → IsFirstReaching steps load place
found-first p e load place steps are few before here =
    let found = met-step p e load steps are few in
    elim (either_way (length steps) place) [
      | inl past ↦ absurd (omega (arith, before found.0 (omega (arith, found.1.within, past)), found.1.here))
      | inr inside ↦ record { within = inside; here = here inside; before = before }
    ]

-- the larger most load of ranges is at most the top load
most-le-top : (p : Parts) (e : ℕ) (ranges : LinkRanges) → AreLinkRanges p e ranges → max ranges.there.most ranges.back.most ≤ top_load p (link_at p e)
most-le-top p e ranges in_ranges = omega (arith, in_ranges.there.carried, in_ranges.other.carried, back-top p e)

-- the steps that searches for the larger least load and the larger most load find
pub record AreFound (steps : List Step) (ranges : LinkRanges) (from last : ℕ) : Type 0 where
  pub first : IsFirstReaching steps (max ranges.there.least ranges.back.least) from
  pub final : IsFirstReaching steps (max ranges.there.most ranges.back.most) last
  pub in_order : from < last + 1

-- two searches find the first steps that reach the larger least load and the larger most load, in order
pub AreFound-searches : (p : Parts) (e : ℕ) (ranges : LinkRanges) (steps : List Step) (from last : ℕ) → AreAllSteps p.law (total_load p) (link_at p e) steps → AreLinkRanges p e ranges
    → ((j : ℕ) → j < from → (step_at steps j).reach < max ranges.there.least ranges.back.least) → (from < length steps → max ranges.there.least ranges.back.least ≤ (step_at steps from).reach)
    → ((j : ℕ) → j < last → (step_at steps j).reach < max ranges.there.most ranges.back.most) → (last < length steps → max ranges.there.most ranges.back.most ≤ (step_at steps last).reach)
    → AreFound steps ranges from last
AreFound-searches p e ranges steps from last are in_ranges before here last_before last_here =
    let most = most-le-top p e ranges in_ranges in
    let rises : max ranges.there.least ranges.back.least ≤ max ranges.there.most ranges.back.most = omega (arith, in_ranges.there.some, in_ranges.other.some) in
    let first = found-first p e _ from steps are (omega (arith, rises, most)) before here in
    let final = found-first p e _ last steps are most last_before last_here in
    record {
      first = first;
      final = final;
      in_order = elim (either_way from last) [ inl le ↦ omega arith | inr lt ↦ absurd (omega (arith, before last lt, final.here, rises)) ];
    }

-- The least net value.

-- the least value and its first loads
pub record IsBestNetValue (p : Parts) (e : ℕ) (ranges : LinkRanges) (there_worth back_worth : ℕ → ℕ) (best : LinkValue) : Type 0 where
  pub value : IsLeastNetValue p e ranges there_worth back_worth best.value
  pub loads : AreFirstNetLoads p e ranges there_worth back_worth best.value best.load best.back

module _ (p : Parts) (e : ℕ) (ranges : LinkRanges) (there_worth back_worth : ℕ → ℕ) (steps : List Step) (from to : ℕ) (best : LinkValue)
    (are : AreAllSteps p.law (total_load p) (link_at p e) steps) (in_ranges : AreLinkRanges p e ranges) (met : AreMet steps ranges from to)
    (found : IsFirstLeast (link_at p e) ranges there_worth back_worth steps from to best) where
  -- the routing cost of the link for each load grain
  abbrev pub r : ℕ
  r = (link_at p e).routing

  larger-top : (x y : ℕ) → IsIn ranges.there x → IsIn ranges.back y → max x y ≤ top_load p (link_at p e)
  larger-top x y in_there in_back = omega (arith, in_there.few, in_back.few, in_ranges.there.carried, in_ranges.other.carried, back-top p e)

  -- the first step that reaches some loads, with their least module cost
  record IsCostStep (x y cost : ℕ) : Type 0 where
    step : ℕ
    reaches : IsFirstReaching steps (max x y) step
    enough : from ≤ step
    inside : step < to
    is : cost ≡ (step_at steps step).cost

  cost-step : (x y cost : ℕ) → IsIn ranges.there x → IsIn ranges.back y → IsLeastModuleCostOn p.law (link_at p e) (max x y) cost → IsCostStep x y cost
  cost-step x y cost in_x in_y is_least =
      let found_step = carried-reached (total_load p) (link_at p e) steps (max x y) is_least.counts are (omega (arith, larger-top x y in_x in_y, top-le p (link_at p e))) is_least.carries in
      record {
        step = found_step.0;
        reaches = found_step.1;
        enough = elim (either_way from found_step.0) [ inl le ↦ le | inr lt ↦ absurd (omega (arith, met.before found_step.0 lt, found_step.1.here, in_x.enough, in_y.enough)) ];
        inside = met.all (max x y) found_step.0 (omega (arith, in_x.few, in_y.few)) found_step.1;
        is = least-unique (link_at p e) (max x y) _ _ is_least (first-least (total_load p) (link_at p e) steps (max x y) found_step.0 are.are_steps found_step.1);
      }

  -- the first step that reaches the best loads
  reaching : (i : ℕ) × IsFirstReaching steps (max best.load best.back) i
  reaching =
      let top = larger-top best.load best.back found.is.there.in_range found.is.other.in_range in
      let carried = top-can_carry p (link_at p e) (max best.load best.back) top in
      carried-reached (total_load p) (link_at p e) steps (max best.load best.back) carried.0 are (omega (arith, top, top-le p (link_at p e))) carried.1

  reaching-cost : IsCostStep best.load best.back (step_at steps reaching.0).cost
  reaching-cost = cost-step best.load best.back _ found.is.there.in_range found.is.other.in_range (first-least (total_load p) (link_at p e) steps (max best.load best.back) reaching.0 are.are_steps reaching.1)

  larger-reached : max best.load best.back ≤ (step_at steps found.place).reach
  larger-reached = omega (arith, found.is.there.reached, found.is.other.reached)

  reaching-cheap : (step_at steps reaching.0).cost ≤ (step_at steps found.place).cost
  reaching-cheap =
      elim (either_way reaching.0 found.place) [
        | inl le ↦ cost-le-later steps reaching.0 found.place are.are_steps.in_order le (omega (arith, found.below, met.within))
        | inr lt ↦ absurd (omega (arith, reaching.1.before found.place lt, larger-reached))
      ]

  attained : net_value there_worth back_worth best.load best.back (r * (best.load + best.back) + (step_at steps reaching.0).cost) ≡ best.value
  attained =
      let i = reaching-cost.step in
      let here = reaching-cost.reaches.here in
      let least = found.least i best.load best.back reaching-cost.enough reaching-cost.inside (record { in_range = found.is.there.in_range; back_in_range = found.is.other.in_range; reached = here }) in
      let no_more = net-no_more r best.load best.back best.load best.back (there_worth best.load) (back_worth best.back) (there_worth best.load) (back_worth best.back) (step_at steps found.place).cost (step_at steps reaching.0).cost (omega arith) (omega arith) reaching-cheap in
      both best.value _ (rw (← reaching-cost.is) at least) (subst (λ (v : ℤ). net_value there_worth back_worth best.load best.back (r * (best.load + best.back) + (step_at steps reaching.0).cost) ≤ℤ v) (sym found.is.value) no_more)
    where
      both : (v x : ℤ) → v ≤ℤ x → x ≤ℤ v → x ≡ v
      both v x one two = omega (arith, ints)

  give : GiveNetValue p e ranges there_worth back_worth best.value best.load best.back
  give = record {
    in_range = found.is.there.in_range;
    back_in_range = found.is.other.in_range;
    cost = r * (best.load + best.back) + (step_at steps reaching.0).cost;
    is_cost = record { module_cost = (step_at steps reaching.0).cost; is_least = first-least (total_load p) (link_at p e) steps _ reaching.0 are.are_steps reaching.1; is_sum = refl };
    attained = attained;
  }

  least-value : IsLeastNetValue p e ranges there_worth back_worth best.value
  least-value = record {
    load = best.load;
    back = best.back;
    give = give;
    least = λ x y c in_x in_y is_cost.
        (let step = cost-step x y is_cost.module_cost in_x in_y is_cost.is_least in
        rw (is_cost.is_sum, step.is) (found.least step.step x y step.enough step.inside (record { in_range = in_x; back_in_range = in_y; reached = step.reaches.here })));
  }

  -- loads that give the value are no smaller, or a later step is the first to reach them
  record AreNoSmaller (x y : ℕ) : Type 0 where
    load : best.load ≤ x
    other : best.back ≤ y

  -- what loads give at the cost of the step that is the first to reach them
  given : (x y : ℕ) (gives : GiveNetValue p e ranges there_worth back_worth best.value x y) → net_value there_worth back_worth x y (r * (x + y) + gives.is_cost.module_cost) ≡ best.value
  given x y gives = (let sum = gives.is_cost.is_sum in rw sum at gives.attained)

  -- where the step of the best loads reaches them, neither is smaller
  no-smaller : (x y : ℕ) (gives : GiveNetValue p e ranges there_worth back_worth best.value x y) → max x y ≤ (step_at steps found.place).reach → gives.is_cost.module_cost ≡ (step_at steps found.place).cost → AreNoSmaller x y
  no-smaller x y gives reached cost =
      let there_no_more = found.is.there.no_more x gives.in_range (omega arith) in
      let back_no_more = found.is.other.no_more y gives.back_in_range (omega arith) in
      record {
        load = elim (either_way best.load x) [
          | inl le ↦ le
          | inr lt ↦ absurd (too_little (omega (arith, found.is.there.less x gives.in_range (omega arith) lt, back_no_more)))
        ];
        other = elim (either_way best.back y) [
          | inl le ↦ le
          | inr lt ↦ absurd (too_little (omega (arith, found.is.other.less y gives.back_in_range (omega arith) lt, there_no_more)))
        ];
      }
    where
      too_little : 1000 * r * best.load + there_worth x + (1000 * r * best.back + back_worth y) < 1000 * r * x + there_worth best.load + (1000 * r * y + back_worth best.back) → ⊥
      too_little both =
          let less = net-less r x y best.load best.back (there_worth x) (back_worth y) (there_worth best.load) (back_worth best.back) gives.is_cost.module_cost (step_at steps found.place).cost both (omega (arith, cost)) in
          not-less best.value _ (rw (← found.is.value) at less) (given x y gives)

  smaller-or-past : (x y : ℕ) → GiveNetValue p e ranges there_worth back_worth best.value x y → AreNoSmaller x y ⊎ (max best.load best.back < max x y)
  smaller-or-past x y gives =
      let step = cost-step x y gives.is_cost.module_cost gives.in_range gives.back_in_range gives.is_cost.is_least in
      let reached : AreReached ranges (step_at steps step.step).reach x y = record { in_range = gives.in_range; back_in_range = gives.back_in_range; reached = step.reaches.here } in
      elim (either_way found.place step.step) [
        | inr lt ↦ absurd (not-less best.value _ (rw (← step.is) at (found.first step.step x y step.enough lt reached)) (given x y gives))
        | inl on ↦
            elim (either_way step.step found.place) [
              | inr past ↦ inr (omega (arith, step.reaches.before found.place past, larger-reached))
              | inl le ↦
                  (let same : step.step ≡ found.place = omega arith in
                  inl (no-smaller x y gives (rw same at step.reaches.here) (rw same at step.is)))
            ]
      ]

  first-loads : AreFirstNetLoads p e ranges there_worth back_worth best.value best.load best.back
  first-loads = record {
    give = give;
    larger = λ x y other. elim (smaller-or-past x y other) [ inl more ↦ omega (arith, more.load, more.other) | inr past ↦ omega (arith, past) ];
    each = λ x y other same. elim (smaller-or-past x y other) [ inl more ↦ (more.load, more.other) | inr past ↦ absurd (omega (arith, past, same)) ];
  }

  -- so the best loads give the least value, and are the first that do
  pub IsFirstLeast-value : IsBestNetValue p e ranges there_worth back_worth best
  IsFirstLeast-value = record { value = least-value; loads = first-loads }

-- It is enough to look up to the first step that reaches the loads that are best where steps cost nothing.
module _ (p : Parts) (e : ℕ) (ranges : LinkRanges) (there_worth back_worth : ℕ → ℕ) (steps : List Step) (load back : ℕ) (are : AreAllSteps p.law (total_load p) (link_at p e) steps) (in_ranges : AreLinkRanges p e ranges)
    (load_best : IsBestLoad (1000 * (link_at p e).routing) there_worth ranges.there ranges.there.most load) (back_best : IsBestLoad (1000 * (link_at p e).routing) back_worth ranges.back ranges.back.most back) where
  -- the steps that searches for the larger least load and for the larger of these loads find
  pub record AreFoundTo (from last : ℕ) : Type 0 where
    pub first : IsFirstReaching steps (max ranges.there.least ranges.back.least) from
    pub final : IsFirstReaching steps (max load back) last
    pub in_order : from ≤ last
    pub reached : (i : ℕ) → from ≤ i → i < last + 1 → max ranges.there.least ranges.back.least ≤ (step_at steps i).reach

  -- two searches find the first steps that reach the larger least load and the larger of the best loads, in order
  pub AreFoundTo-searches : (from last : ℕ) → ((j : ℕ) → j < from → (step_at steps j).reach < max ranges.there.least ranges.back.least) → (from < length steps → max ranges.there.least ranges.back.least ≤ (step_at steps from).reach)
      → ((j : ℕ) → j < last → (step_at steps j).reach < max load back) → (last < length steps → max load back ≤ (step_at steps last).reach) → AreFoundTo from last
  AreFoundTo-searches from last before here last_before last_here =
      let most = most-le-top p e ranges in_ranges in
      let rises : max ranges.there.least ranges.back.least ≤ max load back = omega (arith, load_best.in_range.enough, back_best.in_range.enough) in
      let few : max load back ≤ top_load p (link_at p e) = omega (arith, most, load_best.in_range.few, back_best.in_range.few) in
      let first = found-first p e _ from steps are (omega (arith, rises, few)) before here in
      let final = found-first p e _ last steps are few last_before last_here in
      record {
        first = first;
        final = final;
        in_order = elim (either_way from last) [ inl le ↦ le | inr lt ↦ absurd (omega (arith, before last lt, final.here, rises)) ];
        reached = λ i enough below. omega (arith, first.here, reach-le steps from i are.are_steps.in_order.rising enough (omega (arith, below, final.within)));
      }

  module _ (from last : ℕ) (best : LinkValue) (found : AreFoundTo from last) (is : IsFirstLeast (link_at p e) ranges there_worth back_worth steps from (last + 1) best) where
    -- no later step gives less
    later-no_less : (i x y : ℕ) → last < i → i < length steps → AreReached ranges (step_at steps i).reach x y → best.value ≤ℤ net_value there_worth back_worth x y ((link_at p e).routing * (x + y) + (step_at steps i).cost)
    later-no_less i x y later within reached =
        le-trans best.value (net_value there_worth back_worth load back ((link_at p e).routing * (load + back) + (step_at steps last).cost)) _
        (is.least last load back found.in_order (omega arith) (record { in_range = load_best.in_range; back_in_range = back_best.in_range; reached = found.final.here }))
        (net-no_more (link_at p e).routing x y load back (there_worth x) (back_worth y) (there_worth load) (back_worth back) (step_at steps i).cost (step_at steps last).cost
        (load_best.no_more x reached.in_range reached.in_range.few) (back_best.no_more y reached.back_in_range reached.back_in_range.few) (cost-le-later steps last i are.are_steps.in_order (omega arith) within))

    -- so the first of the least up to there gives the least value
    pub IsFirstLeast-found : IsBestNetValue p e ranges there_worth back_worth best
    IsFirstLeast-found =
        let all = met-step p e (max ranges.there.most ranges.back.most) steps are (most-le-top p e ranges in_ranges) in
        let met = AreMet-found p e ranges steps from all.0 are in_ranges found.first all.1 in
        IsFirstLeast-value p e ranges there_worth back_worth steps from (all.0 + 1) best are in_ranges met
        (record {
          place = is.place;
          enough = is.enough;
          below = omega (arith, is.below, last-le all.0 all.1);
          is = is.is;
          least = λ i x y enough below reached. elim (either_way i last) [
            | inl le ↦ is.least i x y enough (omega arith) reached
            | inr lt ↦ later-no_less i x y lt (omega (arith, below, all.1.within)) reached
          ];
          first = is.first;
        })
      where
        last-le : (i : ℕ) → IsFirstReaching steps (max ranges.there.most ranges.back.most) i → last ≤ i
        last-le i reaching = elim (either_way last i) [ inl le ↦ le | inr lt ↦ absurd (omega (arith, found.final.before i lt, reaching.here, load_best.in_range.few, back_best.in_range.few)) ]
