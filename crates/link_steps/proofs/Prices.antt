-- What prices give to a link, told by its steps.
use Rattle.std.proofs.Common.{◌≡◌, ℕ, ◌+◌, ◌*◌, ◌/◌, ◌<◌, ◌≤◌, inl, inr, Bool, true, false, min, max, List, [], ◌∷◌, ◌++◌, length, slice_index, if◌then◌else◌, Option, Some, None, refl, sym, ap, arith}
use Rattle.std.specs.Prelude.{ℤ, pos, ◌-ℤ◌, ◌≤ℤ◌}
use Rattle.std.proofs.Math.Seq.{get_or-append_seam}
use Rattle.std.proofs.lemmas.List.{get_or_append_left}
use Rattle.std.proofs.Math.Nat.{mul-le-mul, mul-le-mul_left, div-mul-le_self}
use Rattle.std.proofs.lemmas.Int.{ints}
use Rattle.std.proofs.lemmas.Nat.{le-div}
use Rattle.plan_base.specs.declared.parts.Link.{Link}
use Rattle.plan_base.specs.declared.parts.Parts.{Parts}
use Rattle.plan_base.specs.declared.limits.TheConstants.{MODULE_COST_BOUND, MAX_ROUTING_COST, MAX_PRICED_LOAD}
use Rattle.link_steps.specs.declared.limits.TheConstants.{MAX_STEPS}
use Rattle.plan_base.specs.Arcs.{link_at, no_link}
use Rattle.plan_base.specs.Facts.{total_load, top_load, price_limit, IsInstance}
use Rattle.link_steps.specs.declared.step.Step.{Step}
use Rattle.link_steps.specs.declared.ends.End.{End}
use Rattle.link_steps.specs.Costs.{IsLeastModuleCostOn, IsStepCost}
use Rattle.link_steps.specs.declared.range.LinkRanges.{LinkRanges}
use Rattle.link_steps.specs.Values.{top_back, IsLinkValue, AreLinkRanges, share, IsLeastUnitPrice, IsStartPrice}
use Rattle.plan_base.specs.Places.{is_two_way, link_of_place}
use Rattle.link_steps.specs.Candidates.{AreSmall}
use Rattle.link_steps.specs.Steps.{step_at, AreSteps, AreAllSteps, end_in, AreEndsOf, unit_at, IsUnitOf, IsLeastUnit}
use Rattle.link_steps.proofs.Order.{before_or_last}
use Rattle.link_steps.proofs.Reached.{CarriesOn-less, IsFirstReaching, first-least, least-unique}
use Rattle.link_steps.proofs.Counted.{carried-reached}
use Rattle.plan_base.proofs.TopLoads.{top-le}
use Rattle.link_steps.proofs.Carrying.{carried-le-top, top-can_carry}

-- a load that a later step reaches is carried, so each step but the last one ends below the top load
pub below-top : (p : Parts) (l : Link) (steps : List Step) (i j : ℕ) → AreSteps p.law (total_load p) l steps → j < i → i < length steps → (step_at steps j).reach < top_load p l
below-top p l steps i j are before within =
    let attained = are.attained i within in
    let farther : (step_at steps j).reach + 1 ≤ (step_at steps i).reach = omega (arith, are.in_order.rising j i before within) in
    let carried = CarriesOn-less l ((step_at steps j).reach + 1) (step_at steps i).reach attained.counts farther attained.carries in
    omega (arith, carried-le-top p l ((step_at steps j).reach + 1) (omega (arith, are.short j (omega arith))) (attained.counts, carried))

-- where a step ends it is the first to reach
end-reached : (p : Parts) (l : Link) (steps : List Step) (i : ℕ) → AreSteps p.law (total_load p) l steps → i < length steps → IsFirstReaching steps (min (step_at steps i).reach (top_load p l)) i
end-reached p l steps i are within =
    record {
      within = within;
      here = omega arith;
      before = λ j before. omega (arith, below-top p l steps i j are before within, are.in_order.rising j i before within);
    }

end-least : (p : Parts) (l : Link) (steps : List Step) (i : ℕ) → AreSteps p.law (total_load p) l steps → i < length steps → IsLeastModuleCostOn p.law l (min (step_at steps i).reach (top_load p l)) (step_at steps i).cost
end-least p l steps i are within = first-least (total_load p) l steps _ i are (end-reached p l steps i are within)

-- the least module cost of a load is the cost of the first step that reaches it
record IsCostOf (steps : List Step) (load cost : ℕ) : Type 0 where
  place : ℕ
  first : IsFirstReaching steps load place
  is : cost ≡ (step_at steps place).cost

cost-of : (p : Parts) (l : Link) (steps : List Step) (load cost : ℕ) → AreAllSteps p.law (total_load p) l steps → load ≤ top_load p l → IsLeastModuleCostOn p.law l load cost → IsCostOf steps load cost
cost-of p l steps load cost are within least =
    let found = carried-reached (total_load p) l steps load least.counts are (omega (arith, top-le p l)) least.carries in
    record { place = found.0; first = found.1; is = least-unique l load _ _ least (first-least (total_load p) l steps load found.0 are.are_steps found.1) }

-- a larger load has no larger quotient
quotient-le : (n small large : ℕ) → 0 < small → small ≤ large → n / large ≤ n / small
quotient-le n small large positive le =
    let less : n / large * small ≤ n / large * large = mul-le-mul_left (n / large) le in
    le-div (n / large) n small positive (omega (arith, div-mul-le_self n large))

-- what the least unit, or the lack of one, says of the start price
abbrev pub start_of : Parts → Link → Option ℕ → ℕ
start_of p l None = price_limit p
start_of p l (Some unit) = min (1000 * l.routing + unit) (price_limit p)

no-unit : (p : Parts) (l : Link) (steps : List Step) → AreAllSteps p.law (total_load p) l steps → IsLeastUnit (share p) steps (top_load p l) (length steps) None → 0 < top_load p l → ⊥
no-unit p l steps are none positive =
    let carried = top-can_carry p l 1 (omega arith) in
    let found = carried-reached (total_load p) l steps 1 carried.0 are (omega (arith, top-le p l)) carried.1 in
    omega (arith, none found.0 found.1.within, found.1.here)

IsLeastUnitPrice-unit : (p : Parts) (l : Link) (steps : List Step) (unit : ℕ) → AreAllSteps p.law (total_load p) l steps → IsUnitOf (share p) steps (top_load p l) (length steps) unit
    → ((i : ℕ) → i < length steps → 0 < min (step_at steps i).reach (top_load p l) → unit ≤ unit_at (share p) steps (top_load p l) i) → IsLeastUnitPrice p l (1000 * l.routing + unit)
IsLeastUnitPrice-unit p l steps unit are is_unit least =
    let i = is_unit.place in
    record {
      load = min (step_at steps i).reach (top_load p l);
      cost = (step_at steps i).cost;
      positive = is_unit.positive;
      within = omega arith;
      is_least = end-least p l steps i are.are_steps is_unit.within;
      attained = ap (λ (u : ℕ). 1000 * l.routing + u) (sym is_unit.is_unit);
      least = λ other c positive within is_cost.
          (let cost = cost-of p l steps other c are within is_cost in
          let j = cost.place in
          let here = cost.first.here in
          let at_end = least j cost.first.within (omega arith) in
          let smaller = quotient-le (share p * (step_at steps j).cost) other (min (step_at steps j).reach (top_load p l)) positive (omega arith) in
          rw cost.is (omega (arith, at_end, smaller)));
    }

-- what the least unit, or the lack of one, gives is the start price of a link's places
pub IsStartPrice-unit : (p : Parts) (l : Link) (steps : List Step) (least : Option ℕ) → AreAllSteps p.law (total_load p) l steps → IsLeastUnit (share p) steps (top_load p l) (length steps) least
    → IsStartPrice p l (start_of p l least)
IsStartPrice-unit p l steps None are h =
    record { of_used = λ positive. absurd (no-unit p l steps are h positive); of_unused = λ _. refl }
IsStartPrice-unit p l steps (Some unit) are h =
    record {
      of_used = λ positive. record { unit_price = 1000 * l.routing + unit; is_least = IsLeastUnitPrice-unit p l steps unit are h.0 h.1; cut = refl };
      of_unused = λ none. absurd (omega (arith, h.0.positive));
    }

-- one place more
pub IsStartPrice-push : (p : Parts) (prices : List ℕ) (price n : ℕ) → length prices ≡ n → ((q : ℕ) → q < n → IsStartPrice p (link_at p (link_of_place p q)) (slice_index prices q)) → IsStartPrice p (link_at p (link_of_place p n)) price
    → (q : ℕ) → q < n + 1 → IsStartPrice p (link_at p (link_of_place p q)) (slice_index (prices ++ price ∷ []) q)
IsStartPrice-push p prices price n long before here q below =
    elim (before_or_last q n below) [
      | inl old ↦ rw (get_or_append_left {A = ℕ} prices (price ∷ []) 0 q (omega arith)) (before q old)
      | inr new ↦ rw (new, ← long, get_or-append_seam {A = ℕ} prices price [] 0) (rw long here)
    ]

-- a price is at most the limit, so with any load up to the top load it is small enough
pub slope-within : (p : Parts) (l : Link) (price slope load : ℕ) → price ≤ price_limit p → slope ≤ price → load ≤ top_load p l → slope * load ≤ MAX_PRICED_LOAD
slope-within p l price slope load limit less within =
    let most : load ≤ max (total_load p) 1 = omega (arith, top-le p l) in
    let product : slope * load ≤ price_limit p * max (total_load p) 1 = mul-le-mul (let le : slope ≤ price_limit p = omega arith in le) most in
    omega (arith, product, div-mul-le_self (MAX_PRICED_LOAD) (max (total_load p) 1))

-- a load back is at most the top load
pub back-top : (p : Parts) (e : ℕ) → top_back p e ≤ top_load p (link_at p e)
back-top p e = by_cases (is_two_way p.orient)
  where
    by_cases : (b : Bool) → (if b then top_load p (link_at p e) else 0) ≤ top_load p (link_at p e)
    by_cases true = omega arith
    by_cases false = omega arith

-- at prices up to the limit, a link value is not far below 0
pub IsLinkValue-bounded : (p : Parts) (e : ℕ) (ranges : LinkRanges) (price back_price : ℕ) (value : ℤ) → AreLinkRanges p e ranges → price ≤ price_limit p → back_price ≤ price_limit p → IsLinkValue p e ranges price back_price value
    → (pos 0 -ℤ pos (2 * MAX_PRICED_LOAD)) ≤ℤ value
IsLinkValue-bounded p e ranges price back_price value in_ranges limit back_limit is =
    let l = link_at p e in
    let load_top : is.load ≤ top_load p l = omega (arith, is.give.in_range.few, in_ranges.there.carried) in
    let back_within : is.back ≤ top_load p l = omega (arith, is.give.back_in_range.few, in_ranges.other.carried, back-top p e) in
    rw (← is.give.attained) (above (1000 * is.give.cost) (price * is.load + back_price * is.back)
    (omega (arith, slope-within p l price price is.load limit (omega arith) load_top, slope-within p l back_price back_price is.back back_limit (omega arith) back_within)))
  where
    above : (cost priced : ℕ) → priced ≤ 2 * MAX_PRICED_LOAD → (pos 0 -ℤ pos (2 * MAX_PRICED_LOAD)) ≤ℤ (pos cost -ℤ pos priced)
    above cost priced le = omega (arith, ints)

-- what a link costs by routing is small
pub routing-within : (p : Parts) (e load : ℕ) → IsInstance p → e < length p.links → load ≤ top_load p (link_at p e) → (link_at p e).routing * load ≤ MAX_ROUTING_COST
routing-within p e load lawful within few =
    let whole : (link_at p e).routing * total_load p ≤ MAX_ROUTING_COST = lawful.routing e no_link within in
    let product : (link_at p e).routing * load ≤ (link_at p e).routing * total_load p = mul-le-mul_left (link_at p e).routing (let le : load ≤ total_load p = omega (arith, few, top-le p (link_at p e)) in le) in
    omega (arith, whole, product)

-- a thousand step costs of loads up to the top load are small
pub step_cost-small : (p : Parts) (e load back cost : ℕ) (steps : List Step) → IsInstance p → e < length p.links → AreAllSteps p.law (total_load p) (link_at p e) steps → load ≤ top_load p (link_at p e) → back ≤ top_load p (link_at p e)
    → IsStepCost p e load back cost → 1000 * cost ≤ MAX_PRICED_LOAD
step_cost-small p e load back cost steps lawful within are few back_few is_cost =
    let found = cost-of p (link_at p e) steps (max load back) is_cost.module_cost are (omega arith) is_cost.is_least in
    let cheap = are.are_steps.in_order.cheap found.place found.first.within in
    let small : cost ≤ 2 * MAX_ROUTING_COST + MAX_STEPS * MODULE_COST_BOUND =
    omega (arith, is_cost.is_sum, found.is, cheap, found.first.within, are.within, routing-within p e load lawful within few, routing-within p e back lawful within back_few) in
    omega (arith, small)

-- so a link value is not far above 0
pub IsLinkValue-not_above : (p : Parts) (e : ℕ) (ranges : LinkRanges) (price back_price : ℕ) (steps : List Step) (value : ℤ) → IsInstance p → e < length p.links → AreAllSteps p.law (total_load p) (link_at p e) steps
    → AreLinkRanges p e ranges → IsLinkValue p e ranges price back_price value → value ≤ℤ pos MAX_PRICED_LOAD
IsLinkValue-not_above p e ranges price back_price steps value lawful within are in_ranges is =
    let small = step_cost-small p e is.load is.back is.give.cost steps lawful within are (omega (arith, is.give.in_range.few, in_ranges.there.carried)) (omega (arith, is.give.back_in_range.few, in_ranges.other.carried, back-top p e)) is.give.is_cost in
    rw (← is.give.attained) (below (1000 * is.give.cost) (price * is.load + back_price * is.back) small)
  where
    below : (cost priced : ℕ) → cost ≤ MAX_PRICED_LOAD → (pos cost -ℤ pos priced) ≤ℤ pos MAX_PRICED_LOAD
    below cost priced le = omega (arith, ints)

-- both slopes together, too, are small enough with any load up to the top load
pub slopes-within : (p : Parts) (l : Link) (price back_price slope back_slope load : ℕ) → price ≤ price_limit p → back_price ≤ price_limit p → slope ≤ price → back_slope ≤ back_price → load ≤ top_load p l → (slope + back_slope) * load ≤ 2 * MAX_PRICED_LOAD
slopes-within p l price back_price slope back_slope load limit back_limit less back_less within =
    omega (arith, slope-within p l price slope load limit less within, slope-within p l back_price back_slope load back_limit back_less within)

-- there is a best end, each costs little, and none is past the top load
pub AreEndsOf-some : (p : Parts) (l : Link) (ends : List End) → AreEndsOf p l ends → 0 < length ends
AreEndsOf-some p l ends are =
    let ahead = are.are_best.ahead 0 0 are.are_all.are_steps.in_order.some in
    omega (arith, ahead.within)

-- each best end of a link costs little
pub AreEndsOf-cheap : (p : Parts) (l : Link) (ends : List End) (i : ℕ) → AreEndsOf p l ends → i < length ends → (end_in ends i).cost ≤ MAX_STEPS * MODULE_COST_BOUND
AreEndsOf-cheap p l ends i are within =
    let each = are.are_best.each i within in
    let cost_is : (end_in ends i).cost ≡ (step_at are.steps each.place).cost = each.cost in
    omega (arith, cost_is, are.are_all.are_steps.in_order.cheap each.place each.within, each.within, are.are_all.within)

-- no best end of a link has more than the top load
pub AreEndsOf-low : (p : Parts) (l : Link) (ends : List End) (i : ℕ) → AreEndsOf p l ends → i < length ends → (end_in ends i).load ≤ top_load p l
AreEndsOf-low p l ends i are within =
    let each = are.are_best.each i within in
    let load_is : (end_in ends i).load ≡ min (step_at are.steps each.place).reach (top_load p l) = each.load in
    omega (arith, load_is)

-- loads in the ranges cost little
pub AreSmall-ranges : (p : Parts) (e : ℕ) (ranges : LinkRanges) (price back_price : ℕ) → IsInstance p → e < length p.links → AreLinkRanges p e ranges → price ≤ price_limit p → back_price ≤ price_limit p → AreSmall (link_at p e) ranges price back_price
AreSmall-ranges p e ranges price back_price lawful within in_ranges limit back_limit =
    let back_few : ranges.back.most ≤ top_load p (link_at p e) = omega (arith, in_ranges.other.carried, back-top p e) in
    record {
      there = record { some = in_ranges.there.some; routing = routing-within p e _ lawful within in_ranges.there.carried; priced = slope-within p (link_at p e) price price _ limit (omega arith) in_ranges.there.carried };
      other = record { some = in_ranges.other.some; routing = routing-within p e _ lawful within back_few; priced = slope-within p (link_at p e) back_price back_price _ back_limit (omega arith) back_few };
    }
