use Rattle.std.proofs.Common.{◌<◌, length, rules, sym, subst}
use Rattle.search_machine.specs.State.{State}
use Rattle.search_nodes.specs.SearchStates.{machine_state}
use Rattle.search_view.specs.Examining.{IsReadyAt, IsNodeBelow}
use Rattle.search_view.proofs.Examining.{ready-node-within, ready-item}
use Rattle.search_view.proofs.Dividings.{node-made}
use Rattle.search_view.proofs.Reading.{if_ok}
use Rattle.search_view.proofs.view.PoolView.node_below.Goals as goal

pub index-parent-requires : goal.index-parent-requires
index-parent-requires c =
    let s = machine_state c.self.inside.state.now in
    let within : c.args.node.0 < length c.self.inside.state.now.nodes.items = ready-node-within s _ _ _ c.self.invariant c.args.node (subst (λ (s : State). IsReadyAt s c.args.node) (sym c.self.view_is) c.requires) in
    search rules

pub returns : goal.returns
returns c =
    let s = machine_state c.self.inside.state.now in
    let at : IsReadyAt s c.args.node = (subst (λ (s : State). IsReadyAt s c.args.node) (sym c.self.view_is) c.requires) in
    let item = ready-item s _ c.self.inside.state.now.grounds.items c.self.inside.places.now c.self.invariant c.args.node at c.index-parent.result.now c.index-parent.ensures in
    if_ok c.child.result _ _
    (λ child made. subst (λ (s : State). IsNodeBelow s c.args.node c.args.limit child) c.self.view_is
    (node-made s c.args.node at c.args.limit _ c.index-parent.result.now child item made c.in_ok-new.ensures.ok))
    c.child.ensures
