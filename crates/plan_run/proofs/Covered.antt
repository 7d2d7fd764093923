-- With a node for each place down to the branching depth a search decides.
use Rattle.std.proofs.Common.{◌≡◌, ◌≤◌, ◌+◌, ◌-◌, ◌^◌, ℕ, List, Option, Some, None, refl, subst, sym, ◌∙◌}
use Rattle.std.specs.Prelude.{nat_lt}
use Rattle.plan_base.specs.declared.parts.Parts.{Parts}
use Rattle.proof_tree.specs.declared.cuts.Cut.{Cut}
use Rattle.proof_tree.specs.declared.plan.Plan.{Plan}
use Rattle.proof_tree.specs.declared.plan.PlanStatus.{PlanStatus}
use Rattle.proof_tree.specs.declared.plan.PlanStatus.TheVariants as plan_statuses
use Rattle.proof_tree.specs.Plans.{HasStatus}
use Rattle.search_machine.specs.Depth.{IsBranchingDepth}
use Rattle.search_machine.specs.declared.tree.Incumbent.{Incumbent}
use Rattle.pool_core.specs.State.{State}
use Rattle.pool_core.specs.Soundness.{IsSound}
use Rattle.pool_core.specs.PlanOf.{open_count, status_by}
use Rattle.command_texts.specs.declared.status.Status.{Status}
use Rattle.command_texts.specs.declared.status.Status.TheVariants.{Undecided}
use Rattle.command_texts.specs.Statuses.{status_of_plan}
use Rattle.plan_run.specs.Budgets.{CoversSplits}
use Rattle.plan_run.specs.Searches.{IsSearched}
use Rattle.plan_run.specs.Plans.{IsPlanned}

-- with such a budget no leaf stays open
abbrev pub Decides : Type 0
Decides = (s : State) (depth : ℕ) → IsSound s → IsBranchingDepth s.problem depth → 2 ^ (depth + 1) - 1 ≤ s.budget → s.examined ≡ s.budget → open_count s ≡ 0

-- a state without an open leaf is not undecided
none-undecided : (open_leaves : ℕ) (held : Option Incumbent) → open_leaves ≡ 0 → status_by (nat_lt 0 open_leaves) held ≡ plan_statuses.Undecided → ⊥
none-undecided open_leaves None none is = absurd (let bad : ◌≡◌ {A = PlanStatus} plan_statuses.Infeasible plan_statuses.Undecided = rw none at is in cc)
none-undecided open_leaves (Some held) none is = absurd (let bad : ◌≡◌ {A = PlanStatus} plan_statuses.Optimal plan_statuses.Undecided = rw none at is in cc)

decided : Decides → (p : Parts) (cuts : List Cut) (budget : ℕ) (plan : Plan) → IsSearched p cuts budget plan → CoversSplits p budget → plan.status ≡ plan_statuses.Undecided → ⊥
decided decides p cuts budget plan h covers is =
    let of = h.of_search in
    let undecided = subst (HasStatus p plan) is h.valid.status in
    let spent : of.state.examined ≡ of.state.budget = sym of.is_plan.examined ∙ undecided.spent ∙ of.is_plan.budget in
    let is_depth : IsBranchingDepth of.state.problem covers.depth = subst (λ (q : Parts). IsBranchingDepth q covers.depth) (sym of.problem_is) covers.is_depth in
    let covered : 2 ^ (covers.depth + 1) - 1 ≤ of.state.budget = subst (λ (b : ℕ). 2 ^ (covers.depth + 1) - 1 ≤ b) (sym of.budget_is) covers.enough in
    none-undecided (open_count of.state) of.state.incumbent (decides of.state covers.depth of.sound is_depth covered spent) (sym of.is_plan.status ∙ is)

-- only an undecided plan ends so
undecided-plan : (status : PlanStatus) → Undecided ≡ status_of_plan status → status ≡ plan_statuses.Undecided
undecided-plan plan_statuses.Optimal is = absurd (let bad : ◌≡◌ {A = Status} Undecided (status_of_plan plan_statuses.Optimal) = is in cc)
undecided-plan plan_statuses.Infeasible is = absurd (let bad : ◌≡◌ {A = Status} Undecided (status_of_plan plan_statuses.Infeasible) = is in cc)
undecided-plan plan_statuses.Undecided is = refl

-- so the plan that is written ends as a decided one
pub decided-planned : Decides → (p : Parts) (budget : ℕ) (bytes : List ℕ) → IsPlanned p budget Undecided bytes → CoversSplits p budget → ⊥
decided-planned decides p budget bytes h covers = decided decides p h.cuts budget h.plan h.searched covers (undecided-plan h.plan.status h.is_status)

-- and so does the plan of which a line is written
pub decided-searched : Decides → (p : Parts) (cuts : List Cut) (budget : ℕ) (plan : Plan) → IsSearched p cuts budget plan → Undecided ≡ status_of_plan plan.status → CoversSplits p budget → ⊥
decided-searched decides p cuts budget plan h is covers = decided decides p cuts budget plan h covers (undecided-plan plan.status is)
