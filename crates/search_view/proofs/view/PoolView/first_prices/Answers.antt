use Rattle.std.proofs.Common.{◌≡◌, ◌+◌, length, Some, slice_get, sym, ap, subst, ◌∙◌}
use Rattle.plan_base.specs.Places.{places}
use Rattle.search_nodes.specs.SearchStates.{machine_state}
use Rattle.search_machine.specs.State.{State}
use Rattle.search_machine.proofs.Replacing.{node_at}
use Rattle.search_machine.proofs.Runs.{IsReachable-sound}
use Rattle.search_view.proofs.view.PoolView.first_prices.Goals as goal

pub returns-clause-count : goal.returns-clause-count
returns-clause-count c =
    let s = machine_state c.self.inside.state.now in
    let is_node : slice_get s.nodes c.args.node.0 ≡ Some c.in_ok-node.field-0.now = subst (λ (x : State). slice_get x.nodes c.args.node.0 ≡ Some c.in_ok-node.field-0.now) (sym c.self.view_is) (sym c.in_ok-node.ensures) in
    let sound = node_at s c.args.node.0 c.in_ok-node.field-0.now (IsReachable-sound s c.self.invariant.pool.reachable) is_node in
    ap length c.first_prices.ensures ∙ (sound.first_prices.count ∙ ap (λ (t : State). places t.problem + length t.cuts) c.self.view_is)
