use Rattle.std.proofs.Common.{◌≡◌, ◌<◌, ◌+◌, true, length, ap, rules, add-one, sym, subst, ◌∙◌}
use Rattle.pool_core.specs.contracts.pool.Pool.{the_view}
use Rattle.search_machine.specs.State.{State, state_of}
use Rattle.search_machine.specs.Changes.{is_open_state}
use Rattle.search_machine.specs.Machine.{IsReachable}
use Rattle.std.specs.Prelude.{slice_get}
use Rattle.search_nodes.specs.Slots.{given_back}
use Rattle.search_view.specs.Views.{closed_at}
use Rattle.pool_core.proofs.ClosedPool.{close-place, close-ground, close-state, close-kept}
use Rattle.pool_core.proofs.pool.Pool.close.Goals as goal

pub give_back-requires : goal.give_back-requires
give_back-requires c =
    close-place (the_view c.self.inside) _ c.self.inside.state.grounds.items c.self.inside.places.items c.args.node c.args.reason c.self.invariant.kept
    (subst (λ (s : State). is_open_state (state_of s c.args.node) ≡ true) (sym c.self.view_is) c.requires.leaf)
    c.index_mut-closed.result.now c.index_mut-closed.ensures.value c.close-round.result c.close-round.ensures.round

pub index_mut-ground-requires : goal.index_mut-ground-requires
index_mut-ground-requires c =
    let within : c.args.node.0 < length c.self.inside.state.grounds.items =
    close-ground (the_view c.self.inside) _ c.self.inside.state.grounds.items c.self.inside.places.items c.args.node c.args.reason c.self.invariant.kept
    (subst (λ (s : State). is_open_state (state_of s c.args.node) ≡ true) (sym c.self.view_is) c.requires.leaf)
    c.index_mut-closed.result.now c.index_mut-closed.ensures.value in
    search rules

pub invariant_of-self : goal.invariant_of-self
invariant_of-self c = record {
  kept = (
      close-kept (the_view c.self.inside) _ c.self.inside.state.grounds.items c.self.inside.places.items c.args.node c.args.reason c.self.invariant.kept
      (subst (λ (s : State). is_open_state (state_of s c.args.node) ≡ true) (sym c.self.view_is) c.requires.leaf)
      c.index_mut-closed.result.now c.index_mut-closed.ensures.value c.close-round.new.self (c.self.inside.state.examined + 1) c.clear.new.self c.give_back.new.places.items
      c.close-round.ensures.node (add-one c.self.inside.state.examined) c.clear.ensures (c.give_back.ensures ∙ ap (given_back c.self.inside.places.items) c.close-round.ensures.round)
      (subst (λ (s : State). IsReachable (closed_at s c.args.node c.args.reason (slice_get s.nodes c.args.node.0))) (sym c.self.view_is) c.requires.event)
      );
  room_is = c.self.invariant.room_is;
}

pub returns : goal.returns
returns c =
    let closed = close-state (the_view c.self.inside) _ c.self.inside.state.grounds.items c.self.inside.places.items c.args.node c.args.reason c.self.invariant.kept
    (subst (λ (s : State). is_open_state (state_of s c.args.node) ≡ true) (sym c.self.view_is) c.requires.leaf)
    c.index_mut-closed.result.now c.index_mut-closed.ensures.value c.close-round.new.self (c.self.inside.state.examined + 1) c.close-round.ensures.node (add-one c.self.inside.state.examined) in
    closed ∙ ap (λ (s : State). closed_at s c.args.node c.args.reason (slice_get s.nodes c.args.node.0)) c.self.view_is
