-- A valid plan states a cost that is no more than any design's may be, and no bound above it.
use Rattle.std.proofs.Common.{◌≡◌, ℕ, ◌^◌, ◌<◌, ◌≤◌, Option, Some, None, refl, sym, subst, arith, inl}
use Rattle.std.proofs.lemmas.Int.{ints}
use Rattle.std.specs.Option.{option_map}
use Rattle.std.specs.Prelude.{IfSome, IsSomeAnd, MatchOption, max, ℤ, pos, ◌≤ℤ◌}
use Rattle.plan_base.specs.declared.parts.Parts.{Parts}
use Rattle.plan_base.specs.declared.path.Design.{Design}
use Rattle.plan_base.specs.declared.limits.TheConstants.{MAX_TOTAL_LOAD}
use Rattle.plan_base.specs.Facts.{IsInstance, total_load}
use Rattle.plan_base.specs.Places.{there_of, back_of}
use Rattle.plan_base.specs.Designs.{load_at, need}
use Rattle.plan_base.proofs.LoadLaws.{need-le-total}
use Rattle.link_steps.specs.Unit.{IsUnit}
use Rattle.proof_tree.specs.declared.plan.PlanStatus.{PlanStatus}
use Rattle.proof_tree.specs.declared.plan.PlanStatus.TheVariants.{Optimal, Infeasible, Undecided}
use Rattle.proof_tree.specs.declared.plan.Plan.{Plan}
use Rattle.proof_tree.specs.Plans.{stated_cost, IsStatedDesign, IsCandidate, IsLeastCandidate, HasStatus, IsValidPlan}
use Rattle.cert_verifier.proofs.CostBounds.{good-cost}
use Rattle.plan_table.specs.Tables.{rounded_up, claimed_bound}
use Rattle.plan_table.proofs.Raised.{rounded_up-le}

-- ---- the cost

small : (p : Parts) (design : Option (ℕ × Design)) → IsInstance p → IfSome design (λ d. IsStatedDesign p d.0 d.1) → IfSome design (λ d. d.0 < 2 ^ 115)
small p None inst stated = tt
small p (Some (cost, d)) inst stated = subst (λ n. n < 2 ^ 115) stated.cost_is (good-cost p d inst stated.good)

-- the stated cost leaves room for its thousandfold
pub cost_small : (p : Parts) (plan : Plan) → IsInstance p → IsValidPlan p plan → IfSome plan.design (λ d. d.0 < 2 ^ 115)
cost_small p plan inst valid = small p plan.design inst valid.design

-- what a link needs is no more than all loads together
pub need_small : (p : Parts) (d : Design) (e there back most : ℕ) → IsInstance p → there ≡ there_of p (load_at p d) e → back ≡ back_of p (load_at p d) e → most ≡ max there back → most ≤ 10 ^ 18
need_small p d e there back most inst is_there is_back is_most =
    let total : total_load p ≤ MAX_TOTAL_LOAD = inst.total in
    let need : need p d e ≤ total_load p = need-le-total p d e in
    rw (is_most, is_there, is_back) (omega (arith, total, need))

-- ---- the bound

no-more : (v : ℤ) → v ≤ℤ v
no-more v = omega (arith, ints)

undecided : (p : Parts) (plan : Plan) (unit cost : ℕ) (d : Design) → IsUnit p unit → IsStatedDesign p cost d → plan.design ≡ Some (cost, d) → (bound : Option ℤ)
    → MatchOption bound ((b : ℤ) → IsCandidate p plan b → ⊥) (λ b. IsLeastCandidate p plan b) → IfSome (option_map (rounded_up unit) bound) (λ b. b ≤ℤ pos cost)
undecided p plan unit cost d is_unit stated same None none = tt
undecided p plan unit cost d is_unit stated same (Some b) is =
    let own : IsSomeAnd (stated_cost plan) (λ c. pos c ≡ pos cost) = rw same refl in
    let below : b ≤ℤ pos cost = is.least (pos cost) (inl own) in
    subst (λ n. rounded_up unit b ≤ℤ pos n) stated.cost_is (rounded_up-le p unit b d is_unit (subst (λ n. b ≤ℤ pos n) (sym stated.cost_is) below))

of_status : (p : Parts) (plan : Plan) (unit cost : ℕ) (d : Design) → IsUnit p unit → IsStatedDesign p cost d → plan.design ≡ Some (cost, d) → (status : PlanStatus) → HasStatus p plan status → IfSome (claimed_bound unit status (Some (cost, d)) plan.bound) (λ b. b ≤ℤ pos cost)
of_status p plan unit cost d is_unit stated same Optimal has = no-more (pos cost)
of_status p plan unit cost d is_unit stated same Infeasible has = tt
of_status p plan unit cost d is_unit stated same Undecided has = undecided p plan unit cost d is_unit stated same plan.bound has.bound

of_design : (p : Parts) (plan : Plan) (unit : ℕ) → IsUnit p unit → HasStatus p plan plan.status → (design : Option (ℕ × Design)) → IfSome design (λ d. IsStatedDesign p d.0 d.1) → plan.design ≡ design → IfSome design (λ d. IfSome (claimed_bound unit plan.status design plan.bound) (λ b. b ≤ℤ pos d.0))
of_design p plan unit is_unit has None stated same = tt
of_design p plan unit is_unit has (Some (cost, d)) stated same = of_status p plan unit cost d is_unit stated same plan.status has

-- what it claims that no design undercuts is no more than the cost of its own
pub bound_below : (p : Parts) (plan : Plan) (unit : ℕ) → IsValidPlan p plan → IsUnit p unit → IfSome plan.design (λ d. IfSome (claimed_bound unit plan.status plan.design plan.bound) (λ b. b ≤ℤ pos d.0))
bound_below p plan unit valid is_unit = of_design p plan unit is_unit valid.status plan.design valid.design refl
