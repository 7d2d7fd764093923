-- What a search gives, from what the pool's calls ensure.
use Rattle.std.proofs.Common.{◌≡◌, ℕ, List, Result, Ok, Err, subst, ap, ◌∙◌}
use Rattle.std.specs.Prelude.{IfOk}
use Rattle.plan_base.specs.declared.parts.Parts.{Parts}
use Rattle.proof_tree.specs.declared.cuts.Cut.{Cut}
use Rattle.proof_tree.specs.declared.plan.Plan.{Plan}
use Rattle.proof_tree.specs.Plans.{IsValidPlan, HasItsClaim}
use Rattle.pool_core.specs.State.{State}
use Rattle.pool_core.specs.Machine.{IsOpeningState}
use Rattle.pool_core.specs.PlanOf.{IsPlanOf, HasOpeningBound, PartsPaths}
use Rattle.pool_core.specs.Tasks.{IsSearchState}
use Rattle.plan_run.specs.Searches.{IsSearched}

-- what a valid plan claims is so
abbrev pub Claims : Type 0
Claims = (p : Parts) (plan : Plan) → IsValidPlan p plan → HasItsClaim p plan

of-state : Claims → (p : Parts) (cuts : List Cut) (budget : ℕ) (done : State) (plan : Plan) → IsSearchState p cuts budget done → IsPlanOf done plan → IsValidPlan p plan → HasOpeningBound p plan → PartsPaths p plan.tree → IsSearched p cuts budget plan
of-state claims p cuts budget done plan h is valid bound parts = record {
  valid = valid;
  claim = claims p plan valid;
  cuts_are = is.cuts ∙ h.cuts_are;
  budget_is = is.budget ∙ h.budget_is;
  splits = parts;
  bound = bound;
  of_search = record { state = done; problem_is = h.problem; cuts_are = h.cuts_are; budget_is = h.budget_is; reachable = h.reachable; sound = h.sound; is_plan = is };
}

-- the plan of a pool that is done is what a search gives for the pool's instance, cuts and budget
pub searched : {E : Type 0} → Claims → (p : Parts) (cuts : List Cut) (budget : ℕ) (done : State) (result : Result Plan E) → IsSearchState p cuts budget done → IfOk result (IsPlanOf done) → IfOk result (IsValidPlan done.problem)
    → IfOk result (HasOpeningBound done.problem) → IfOk result (λ plan. PartsPaths done.problem plan.tree) → IfOk result (IsSearched p cuts budget)
searched claims p cuts budget done (Ok plan) h is valid bound parts = of-state claims p cuts budget done plan h is
    (subst (λ (q : Parts). IsValidPlan q plan) h.problem valid)
    (subst (λ (q : Parts). HasOpeningBound q plan) h.problem bound)
    (subst (λ (q : Parts). PartsPaths q plan.tree) h.problem parts)
searched claims p cuts budget done (Err error) h is valid bound parts = tt

-- a pool of this instance, these cuts and this budget gives what a search of them gives
pub searched-for : {E : Type 0} (p q : Parts) (cuts list : List Cut) (budget other : ℕ) (result : Result Plan E) → q ≡ p → list ≡ cuts → other ≡ budget → IfOk result (IsSearched q list other) → IfOk result (IsSearched p cuts budget)
searched-for p q cuts list budget other result same alike equal h = rw (← same, ← alike, ← equal) h

-- the opening state of an instance, a list of cuts and a budget has these
pub opening-problem : (p : Parts) (cuts : List Cut) (budget : ℕ) (opened : State) → IsOpeningState p cuts budget opened → opened.problem ≡ p
opening-problem p cuts budget opened h = ap (λ (s : State). s.problem) h.is_state

-- the opening state has the cuts that were given
pub opening-cuts : (p : Parts) (cuts : List Cut) (budget : ℕ) (opened : State) → IsOpeningState p cuts budget opened → opened.cuts ≡ cuts
opening-cuts p cuts budget opened h = ap (λ (s : State). s.cuts) h.is_state

-- the opening state has the budget that was asked for
pub opening-budget : (p : Parts) (cuts : List Cut) (budget : ℕ) (opened : State) → IsOpeningState p cuts budget opened → opened.budget ≡ budget
opening-budget p cuts budget opened h = ap (λ (s : State). s.budget) h.is_state
