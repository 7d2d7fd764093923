-- A task that tells that nothing is left to do.
use Rattle.std.proofs.Common.{◌≡◌, ℕ, List, Bool, true, subst}
use Rattle.plan_base.specs.declared.parts.Parts.{Parts}
use Rattle.proof_tree.specs.declared.cuts.Cut.{Cut}
use Rattle.plan_io.specs.declared.gate.Standing.{Standing}
use Rattle.search_machine.specs.declared.task.Task.{Task}
use Rattle.search_machine.specs.declared.task.Task.TheVariants as task
use Rattle.search_machine.specs.PlanOf.{is_done}
use Rattle.search_machine.specs.Tasks.{IsLawfulTask}
use Rattle.pool_desk.specs.Standings.{standing_of}
use Rattle.pool_hub.specs.States.{HasState}

-- a task that says so shows that the pool is done
pub nothing_left : (p : Parts) (cuts : List Cut) (budget : ℕ) (answer : Task) (standing : Standing) (asks : Bool) → HasState p cuts budget (λ s. IsLawfulTask s answer × (standing ≡ standing_of asks s)) → answer ≡ task.Done
    → HasState p cuts budget (λ s. is_done s ≡ true)
nothing_left p cuts budget answer standing asks h is = record { state = h.state; of_search = h.of_search; fact = subst (IsLawfulTask h.state) is h.fact.0 }
