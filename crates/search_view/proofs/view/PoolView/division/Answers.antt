use Rattle.std.proofs.Common.{◌≤◌, suc, List, length, add-one, ap, ◌∙◌, rules}
use Rattle.search_machine.specs.State.{Node, State}
use Rattle.search_nodes.specs.SearchStates.{machine_state}
use Rattle.search_view.proofs.Dividings.{numbers-small}
use Rattle.search_view.proofs.view.PoolView.division.Goals as goal

pub overflow_cast-count : goal.overflow_cast-count
overflow_cast-count c =
    let s = machine_state c.self.inside.state.now in
    let few : length c.self.inside.state.now.nodes.items ≤ 8193 = numbers-small s c.self.invariant.pool.reachable c.self.invariant.pool.budget in
    search rules

pub overflow_add-result : goal.overflow_add-result
overflow_add-result c =
    let s = machine_state c.self.inside.state.now in
    let few : length c.self.inside.state.now.nodes.items ≤ 8193 = numbers-small s c.self.invariant.pool.reachable c.self.invariant.pool.budget in
    search rules

pub returns-clause-left : goal.returns-clause-left
returns-clause-left c = ap length c.as_slice.ensures.value ∙ ap (λ (s : State). length s.nodes) c.self.view_is

pub returns-clause-right : goal.returns-clause-right
returns-clause-right c = add-one (length c.as_slice.result.now) ∙ (ap (λ (xs : List Node). suc (length xs)) c.as_slice.ensures.value ∙ ap (λ (s : State). suc (length s.nodes)) c.self.view_is)
