-- What a search asks for, and what it gives: a plan of a state that its events lead to.
use Rattle.std.specs.Prelude.{ℕ, ◌≡◌, List}
use Rattle.plan_base.specs.declared.parts.Parts.{Parts}
use Rattle.proof_tree.specs.declared.cuts.Cut.{Cut}
use Rattle.proof_tree.specs.declared.plan.Plan.{Plan}
pub use Rattle.proof_tree.specs.Cuts.{IsCutList}
use Rattle.proof_tree.specs.Plans.{IsValidPlan, HasItsClaim}
pub use Rattle.command_words.specs.Words.{AreWorkers, IsBudget}
use Rattle.pool_core.specs.State.{State}
use Rattle.pool_core.specs.Machine.{IsReachable}
use Rattle.pool_core.specs.Soundness.{IsSound}
use Rattle.pool_core.specs.PlanOf.{IsPlanOf, HasOpeningBound, PartsPaths}

-- the plan is that of a sound state, to which events of the search for this instance, list of cuts and budget lead
pub record IsOfSearch (p : Parts) (cuts : List Cut) (budget : ℕ) (plan : Plan) : Type 0 where
  pub state : State
  pub problem_is : state.problem ≡ p
  pub cuts_are : state.cuts ≡ cuts
  pub budget_is : state.budget ≡ budget
  pub reachable : IsReachable state
  pub sound : IsSound state
  pub is_plan : IsPlanOf state plan

-- the plan is a valid one of the instance, so what it claims is so; it states these cuts and this budget, each of its splits parts
-- two paths of a demand or two steps of a link, and a bound that it states is at least the bound of the whole at the start prices
pub record IsSearched (p : Parts) (cuts : List Cut) (budget : ℕ) (plan : Plan) : Type 0 where
  pub valid : IsValidPlan p plan
  pub claim : HasItsClaim p plan
  pub cuts_are : plan.cuts ≡ cuts
  pub budget_is : plan.budget ≡ budget
  pub splits : PartsPaths p plan.tree
  pub bound : HasOpeningBound p plan
  pub of_search : IsOfSearch p cuts budget plan
