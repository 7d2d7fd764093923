use Rattle.std.proofs.Common.{◌<◌, length, IsSome, sym, ap, subst, ◌∙◌, rules}
use Rattle.search_nodes.specs.SearchStates.{machine_state}
use Rattle.search_machine.specs.State.{State, round_of}
use Rattle.search_view.proofs.TaskLaws.{has-round}
use Rattle.search_view.proofs.Reading.{has-within, read-round, shown-some, shown-value}
use Rattle.search_view.proofs.view.PoolView.round_at.Goals as goal

pub index-requires : goal.index-requires
index-requires c =
    let s = machine_state c.self.inside.state.now in
    let within : c.args.node.0 < length c.self.inside.state.now.nodes.items =
    has-within s c.args.node (has-round s c.args.node (subst (λ (s : State). IsSome (round_of s c.args.node)) (sym c.self.view_is) c.requires)) in
    search rules

pub unwrap-requires : goal.unwrap-requires
unwrap-requires c =
    let s = machine_state c.self.inside.state.now in
    let some : IsSome (round_of s c.args.node) = subst (λ (s : State). IsSome (round_of s c.args.node)) (sym c.self.view_is) c.requires in
    let within : c.args.node.0 < length c.self.inside.state.now.nodes.items = has-within s c.args.node (has-round s c.args.node some) in
    let read = read-round c.self.inside.state.now.nodes.items c.args.node.0 c.index.result.now within c.index.ensures in
    shown-some _ _ _ (c.round.ensures ∙ sym read) some

pub returns : goal.returns
returns c =
    let s = machine_state c.self.inside.state.now in
    let some : IsSome (round_of s c.args.node) = subst (λ (s : State). IsSome (round_of s c.args.node)) (sym c.self.view_is) c.requires in
    let within : c.args.node.0 < length c.self.inside.state.now.nodes.items = has-within s c.args.node (has-round s c.args.node some) in
    let read = read-round c.self.inside.state.now.nodes.items c.args.node.0 c.index.result.now within c.index.ensures in
    shown-value _ _ _ _ c.round.ensures c.unwrap.ensures ∙ (sym read ∙ ap (λ (s : State). round_of s c.args.node) c.self.view_is)
