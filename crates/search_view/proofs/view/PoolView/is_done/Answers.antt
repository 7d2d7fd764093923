use Rattle.std.proofs.Common.{◌≡◌, List, length, false, ◌==◌, ap, ◌∙◌, rules, tests}
use Rattle.std.specs.Prelude.{nat_eq}
use Rattle.search_nodes.specs.SearchStates.{machine_state}
use Rattle.search_machine.specs.State.{Node}
use Rattle.search_machine.specs.PlanOf.{is_done}
use Rattle.search_machine.proofs.Runs.{IsReachable-sound}
use Rattle.search_view.proofs.TaskLaws.{done-count}
use Rattle.search_view.proofs.view.PoolView.is_done.Goals as goal

pub returns-else-state : goal.returns-else-state
returns-else-state c =
    let s = machine_state c.self.inside.state.now in
    let unspent : (c.self.inside.state.now.examined == c.self.inside.state.now.budget) ≡ false = search (rules, tests) in
    ap (λ (xs : List Node). nat_eq (length xs) c.self.inside.state.now.examined) c.as_slice.ensures.value ∙ done-count s (IsReachable-sound s c.self.invariant.pool.reachable) unspent ∙ ap is_done c.self.view_is
