-- Step costs of given loads of places, link by link.
use Rattle.std.proofs.Common.{ℕ, ◌+◌, ◌-◌, ◌*◌, ◌<◌, ◌≤◌, Bool, true, false, if◌then◌else◌, List, length, slice_index, arith, add-one}
use Rattle.plan_base.specs.declared.parts.Parts.{Parts}
use Rattle.plan_base.specs.declared.limits.TheConstants.{MAX_PLACES, MAX_ROUTING_COST, MODULE_COST_BOUND}
use Rattle.plan_base.specs.Facts.{IsInstance, total_load}
use Rattle.plan_base.specs.Places.{is_two_way, there_of, back_of}
use Rattle.plan_base.proofs.PlaceSums.{there-within, places-few}
use Rattle.link_steps.specs.declared.limits.TheConstants.{MAX_STEPS}
use Rattle.link_steps.specs.Costs.{IsStepCost}
use Rattle.cert_verifier.specs.Routings.{IsCostOfLoads}
use Rattle.cert_verifier.proofs.Terms.{HasSum, HasSum-none, HasSum-next}

-- the most that a link costs
abbrev pub most_of_link : ℕ
most_of_link = 2 * MAX_ROUTING_COST + (MAX_STEPS - 1) * MODULE_COST_BOUND

-- the step costs of the first links, their sum, and that it is small
pub record AreCosted (p : Parts) (loads : List ℕ) (n total : ℕ) : Type 0 where
  pub has : HasSum (λ e x. IsStepCost p e (there_of p (slice_index loads) e) (back_of p (slice_index loads) e) x) (λ e x. x) n total
  pub small : total ≤ n * most_of_link

-- where each place has at most the total load, so have the places of a link
pub there-most : (p : Parts) (loads : List ℕ) (e : ℕ) → IsInstance p → e < length p.links → ((q : ℕ) → q < MAX_PLACES → slice_index loads q ≤ total_load p) → there_of p (slice_index loads) e ≤ total_load p
there-most p loads e inst within most =
    let place = there-within p e within in
    let few = places-few p inst in
    most (if is_two_way p.orient then 2 * e else e) (omega (arith, place, few))

-- where each place has at most the total load, so has the way from target to source of a link
pub back-most : (p : Parts) (loads : List ℕ) (e : ℕ) → IsInstance p → e < length p.links → ((q : ℕ) → q < MAX_PLACES → slice_index loads q ≤ total_load p) → back_of p (slice_index loads) e ≤ total_load p
back-most p loads e inst within most = by_cases (is_two_way p.orient)
  where
    by_cases : (b : Bool) → (if b then slice_index loads (2 * e + 1) else 0) ≤ total_load p
    by_cases true = most (2 * e + 1) (omega (arith, within, inst.link_count))
    by_cases false = omega arith

-- where no link is counted yet, the step costs add up to 0
pub costed_none : (p : Parts) (loads : List ℕ) → AreCosted p loads 0 0
costed_none p loads = record { has = HasSum-none (λ e x. IsStepCost p e (there_of p (slice_index loads) e) (back_of p (slice_index loads) e) x) (λ e x. x); small = omega arith }

-- the step cost of the next link, no more than a link costs at most, adds to those of the links before it
pub costed_next : (p : Parts) (loads : List ℕ) (n total cost : ℕ) → AreCosted p loads n total → IsStepCost p n (there_of p (slice_index loads) n) (back_of p (slice_index loads) n) cost → cost ≤ most_of_link → AreCosted p loads (n + 1) (total + cost)
costed_next p loads n total cost costed is small =
    rw add-one (record {
      has = HasSum-next (λ e x. IsStepCost p e (there_of p (slice_index loads) e) (back_of p (slice_index loads) e) x) (λ e x. x) n total cost costed.has is;
      small = omega (arith, costed.small);
    })

-- the step costs of all links add up to what the loads cost
pub costed_all : (p : Parts) (loads : List ℕ) (total : ℕ) → AreCosted p loads (length p.links) total → IsCostOfLoads p loads total
costed_all p loads total costed = record { step_costs = costed.has.terms; are_costs = costed.has.are_terms; is_sum = costed.has.is_sum }
