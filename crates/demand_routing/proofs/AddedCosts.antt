-- Each arc has one weight, since a link has a step cost up to the top load, and one alone.
use Rattle.std.proofs.Common.{◌≡◌, ℕ, zero, suc, ◌+◌, ◌*◌, ◌<◌, ◌≤◌, ◌⊎◌, inl, inr, [], ◌∷◌, length, slice_index_or, Option, Some, None, refl, sym, subst, ap, ◌∙◌, arith, length-append}
use Rattle.std.proofs.lemmas.List.{get_or_append_left, get_or_push}
use Rattle.plan_base.specs.declared.parts.Parts.{Parts}
use Rattle.plan_base.specs.Arcs.{link_at}
use Rattle.plan_base.specs.Facts.{top_load}
use Rattle.plan_base.specs.Places.{link_of_place, there_of, back_of}
use Rattle.plan_base.proofs.TopLoads.{top-le}
use Rattle.link_steps.proofs.Order.{either_way, before_or_last}
use Rattle.link_steps.proofs.Carrying.{carried-le-top, top-can_carry}
use Rattle.link_steps.proofs.LeastCosts.{least_cost-exists}
use Rattle.link_steps.proofs.Reached.{least-unique}
use Rattle.demand_routing.specs.Traffic.{with_more, larger_of, IsTooMuch, IsCostOf, IsRise, IsAddedCost, span_of, halved, IsShared, IsAlone, IsFarCost}
use Rattle.demand_routing.specs.Weighed.{module_cost_by, with_routing, cost_at, rise_of, added_cost, far_of, far_cost, listed}
use Rattle.demand_routing.proofs.Rises.{larger-le}

-- the step cost of a link, or that its top load is less than it carries
abbrev IsFoundCost : Parts → (ℕ → ℕ) → ℕ → Option ℕ → Type 0
IsFoundCost p g e (Some cost) = (larger_of p g e ≤ top_load p (link_at p e)) × IsCostOf p g e cost
IsFoundCost p g e None = top_load p (link_at p e) < larger_of p g e

found-by : (p : Parts) (g : ℕ → ℕ) (e : ℕ) (order : (larger_of p g e ≤ top_load p (link_at p e)) ⊎ (top_load p (link_at p e) < larger_of p g e)) → IsFoundCost p g e (with_routing p g e (module_cost_by p e (larger_of p g e) order))
found-by p g e (inl low) =
    let found = least_cost-exists (link_at p e) (larger_of p g e) (top-can_carry p (link_at p e) (larger_of p g e) low) in
    (low, record { module_cost = found.0; is_least = found.1; is_sum = refl })
found-by p g e (inr high) = high

cost-found : (p : Parts) (g : ℕ → ℕ) (e : ℕ) → IsFoundCost p g e (cost_at p g e)
cost-found p g e = found-by p g e (either_way (larger_of p g e) (top_load p (link_at p e)))

-- and one alone
cost-one : (p : Parts) (g : ℕ → ℕ) (e a b : ℕ) → IsCostOf p g e a → IsCostOf p g e b → a ≡ b
cost-one p g e a b ha hb =
    ha.is_sum ∙
    ap (λ (m : ℕ). (link_at p e).routing * (there_of p g e + back_of p g e) + m) (least-unique (link_at p e) (larger_of p g e) ha.module_cost hb.module_cost ha.is_least hb.is_least) ∙
    sym hb.is_sum

rise-found : (p : Parts) (f : ℕ → ℕ) (q load : ℕ) (after before : Option ℕ) → IsFoundCost p (with_more f q load) (link_of_place p q) after → IsFoundCost p f (link_of_place p q) before → IsAddedCost p f q load (rise_of after before)
rise-found p f q load None before high below = λ within counts carries.
    let low = carried-le-top p (link_at p (link_of_place p q)) (larger_of p (with_more f q load) (link_of_place p q)) within (counts, carries) in
    omega (arith, high, low)
rise-found p f q load (Some after) None now high = absurd (omega (arith, now.0, high, larger-le p f q load (link_of_place p q)))
rise-found p f q load (Some after) (Some before) now old = record {
  before = before;
  after = after;
  within = omega (arith, now.0, top-le p (link_at p (link_of_place p q)));
  costs_before = old.1;
  costs_after = now.1;
  is_rise = refl;
}

-- what a load adds, or none where it is too much
pub added-is : (p : Parts) (f : ℕ → ℕ) (q load : ℕ) → IsAddedCost p f q load (added_cost p f q load)
unfolding added_cost
added-is p f q load =
    rise-found p f q load (cost_at p (with_more f q load) (link_of_place p q)) (cost_at p f (link_of_place p q)) (cost-found p (with_more f q load) (link_of_place p q)) (cost-found p f (link_of_place p q))

-- what adds so much is not too much
rise-not-too_much : (p : Parts) (f : ℕ → ℕ) (q load rise : ℕ) → IsRise p f q load rise → IsTooMuch p (with_more f q load) (link_of_place p q) → ⊥
rise-not-too_much p f q load rise h none = none h.within h.costs_after.is_least.counts h.costs_after.is_least.carries

rise-one : (p : Parts) (f : ℕ → ℕ) (q load a b : ℕ) → IsRise p f q load a → IsRise p f q load b → a ≡ b
rise-one p f q load a b ha hb =
    let e = link_of_place p q in
    omega (arith, ha.is_rise, hb.is_rise, cost-one p f e ha.before hb.before ha.costs_before hb.costs_before, cost-one p (with_more f q load) e ha.after hb.after ha.costs_after hb.costs_after)

-- a load adds one amount alone
pub added-one : (p : Parts) (f : ℕ → ℕ) (q load : ℕ) (v w : Option ℕ) → IsAddedCost p f q load v → IsAddedCost p f q load w → v ≡ w
added-one p f q load (Some a) (Some b) ha hb = ap Some (rise-one p f q load a b ha hb)
added-one p f q load (Some a) None ha hb = absurd (rise-not-too_much p f q load a ha hb)
added-one p f q load None (Some b) ha hb = absurd (rise-not-too_much p f q load b hb ha)
added-one p f q load None None ha hb = refl

-- what an arc weighs where a span of loads is looked at too
abbrev pub IsFarOf : Parts → (ℕ → ℕ) → ℕ → ℕ → ℕ → Option ℕ → Type 0
IsFarOf p f q load span (Some weight) = IsShared p f q load span weight ⊎ IsAlone p f q load span weight
IsFarOf p f q load span None = IsTooMuch p (with_more f q load) (link_of_place p q)

far-found : (p : Parts) (f : ℕ → ℕ) (q load span : ℕ) (rise beyond : Option ℕ) → IsAddedCost p f q load rise → IsAddedCost p f q span beyond → IsFarOf p f q load span (far_of rise beyond load span)
far-found p f q load span None beyond is more = is
far-found p f q load span (Some rise) None is more = inr (record { is_rise = is; too_far = λ _. more })
far-found p f q load zero (Some rise) (Some beyond) is more = inr (record { is_rise = is; too_far = λ positive. absurd (omega (arith, positive)) })
far-found p f q load (suc n) (Some rise) (Some beyond) is more = inl (record { rise = rise; beyond = beyond; is_rise = is; is_beyond = more; positive = omega arith; is_weight = refl })

far-told : (p : Parts) (f : ℕ → ℕ) (q load far : ℕ) (weight : Option ℕ) → IsFarOf p f q load (span_of p (f q) load far) weight → IsFarCost p f q load far weight
unfolding IsFarCost
far-told p f q load far (Some weight) is = is
far-told p f q load far None is = is

-- what an arc weighs where a span of loads is looked at too that is as far as is looked
pub far-span : (p : Parts) (f : ℕ → ℕ) (q load far span : ℕ) (weight : Option ℕ) → span ≡ span_of p (f q) load far → IsFarOf p f q load span weight → IsFarCost p f q load far weight
far-span p f q load far span weight same is = far-told p f q load far weight (subst (λ (n : ℕ). IsFarOf p f q load n weight) same is)

-- none where the load is too much for the arc's link
pub far-none : (p : Parts) (f : ℕ → ℕ) (q load far : ℕ) → IsTooMuch p (with_more f q load) (link_of_place p q) → IsFarCost p f q load far None
far-none p f q load far too_much = far-told p f q load far None too_much

-- what an arc weighs where far more load is looked at too
pub far-is : (p : Parts) (f : ℕ → ℕ) (q load far : ℕ) → IsFarCost p f q load far (far_cost p f q load far)
unfolding far_cost
far-is p f q load far =
    far-told p f q load far (far_of (added_cost p f q load) (added_cost p f q (span_of p (f q) load far)) load (span_of p (f q) load far))
    (far-found p f q load (span_of p (f q) load far) (added_cost p f q load) (added_cost p f q (span_of p (f q) load far)) (added-is p f q load) (added-is p f q (span_of p (f q) load far)))

far-read : (p : Parts) (f : ℕ → ℕ) (q load far : ℕ) (weight : Option ℕ) → IsFarCost p f q load far weight → IsFarOf p f q load (span_of p (f q) load far) weight
unfolding IsFarCost
far-read p f q load far (Some weight) is = is
far-read p f q load far None is = is

far-some : (p : Parts) (f : ℕ → ℕ) (q load span a b : ℕ) → IsShared p f q load span a ⊎ IsAlone p f q load span a → IsShared p f q load span b ⊎ IsAlone p f q load span b → a ≡ b
far-some p f q load span a b (inl x) (inl y) =
    x.is_weight ∙ ap (λ (r : ℕ). halved r x.beyond load span) (rise-one p f q load x.rise y.rise x.is_rise y.is_rise) ∙
    ap (λ (r : ℕ). halved y.rise r load span) (rise-one p f q span x.beyond y.beyond x.is_beyond y.is_beyond) ∙ sym y.is_weight
far-some p f q load span a b (inl x) (inr y) = absurd (rise-not-too_much p f q span x.beyond x.is_beyond (y.too_far x.positive))
far-some p f q load span a b (inr x) (inl y) = absurd (rise-not-too_much p f q span y.beyond y.is_beyond (x.too_far y.positive))
far-some p f q load span a b (inr x) (inr y) = rise-one p f q load a b x.is_rise y.is_rise

far-not-too_much : (p : Parts) (f : ℕ → ℕ) (q load span a : ℕ) → IsShared p f q load span a ⊎ IsAlone p f q load span a → IsTooMuch p (with_more f q load) (link_of_place p q) → ⊥
far-not-too_much p f q load span a (inl x) none = rise-not-too_much p f q load x.rise x.is_rise none
far-not-too_much p f q load span a (inr x) none = rise-not-too_much p f q load a x.is_rise none

far-same : (p : Parts) (f : ℕ → ℕ) (q load span : ℕ) (v w : Option ℕ) → IsFarOf p f q load span v → IsFarOf p f q load span w → v ≡ w
far-same p f q load span (Some a) (Some b) ha hb = ap Some (far-some p f q load span a b ha hb)
far-same p f q load span (Some a) None ha hb = absurd (far-not-too_much p f q load span a ha hb)
far-same p f q load span None (Some b) ha hb = absurd (far-not-too_much p f q load span b hb ha)
far-same p f q load span None None ha hb = refl

-- and nothing else
pub far-one : (p : Parts) (f : ℕ → ℕ) (q load far : ℕ) (v w : Option ℕ) → IsFarCost p f q load far v → IsFarCost p f q load far w → v ≡ w
far-one p f q load far v w ha hb = far-same p f q load (span_of p (f q) load far) v w (far-read p f q load far v ha) (far-read p f q load far w hb)

-- a list of the values of a function below a count has that length
pub listed-length : (f : ℕ → Option ℕ) (n : ℕ) → length (listed f n) ≡ n
listed-length f zero = refl
listed-length f (suc n) = omega (arith, length-append (listed f n) (f n ∷ []), listed-length f n)

-- a list of the values of a function has each at its place
pub listed-at : (f : ℕ → Option ℕ) (n i : ℕ) → i < n → slice_index_or (listed f n) i None ≡ f i
listed-at f zero i below = absurd (omega arith)
listed-at f (suc n) i below =
    elim (before_or_last i n (omega arith)) [
      | inl earlier ↦ get_or_append_left (listed f n) (f n ∷ []) None i (omega (arith, earlier, listed-length f n)) ∙ listed-at f n i earlier
      | inr last ↦ rw last (get_or_push (listed f n) (f n) None n (listed-length f n))
    ]
