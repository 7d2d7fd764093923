use Rattle.std.proofs.Common.{◌≡◌, ◌<◌, Some, None, length, slice_get, rules, sym, ap, subst, ◌∙◌}
use Rattle.std.proofs.lemmas.Option.{slice_get-get_or}
use Rattle.search_machine.specs.State.{State}
use Rattle.search_nodes.specs.SearchStates.{machine_state}
use Rattle.search_nodes.specs.Slots.{holder_in}
use Rattle.search_view.specs.Views.{IsPublishedAt}
use Rattle.search_view.proofs.Reading.{if_ok}
use Rattle.search_view.proofs.Publishing.{held-by, holder-within, published-here, none-published}
use Rattle.search_view.proofs.view.PoolView.prices.Goals as goal

pub index-requires : goal.index-requires
index-requires c =
    let s = machine_state c.self.inside.state.now in
    let named : holder_in (slice_get c.self.inside.places.now c.args.slot) ≡ Some c.in-Some.node =
    sym c.holder.ensures ∙ c.in-Some.is in
    let within : c.in-Some.node.0 < length c.self.inside.state.now.nodes.items = holder-within s c.self.inside.places.now c.self.invariant.pool c.args.slot c.in-Some.node named in
    search rules

pub returns-in-Some : goal.returns-in-Some
returns-in-Some c =
    let s = machine_state c.self.inside.state.now in
    let named : holder_in (slice_get c.self.inside.places.now c.args.slot) ≡ Some c.in-Some.node =
    sym c.holder.ensures ∙ c.in-Some.is in
    let within : c.in-Some.node.0 < length c.self.inside.state.now.nodes.items = holder-within s c.self.inside.places.now c.self.invariant.pool c.args.slot c.in-Some.node named in
    if_ok c.published.result _ _
    (λ found told. subst (λ (s : State). IsPublishedAt s c.args.slot found) c.self.view_is
    (published-here s c.args.slot c.in-Some.node c.index.result.now found
    (slice_get-get_or c.self.inside.state.now.nodes.items c.in-Some.node.0 c.index.result.now within ∙ ap (λ (x : _). Some x) (sym c.index.ensures))
    (held-by s c.self.inside.places.now c.self.invariant.pool c.args.slot c.in-Some.node named) told))
    c.published.ensures

pub returns-in-None : goal.returns-in-None
returns-in-None c =
    let s = machine_state c.self.inside.state.now in
    let none : holder_in (slice_get c.self.inside.places.now c.args.slot) ≡ None =
    sym c.holder.ensures ∙ c.in-None.is in
    subst (λ (s : State). IsPublishedAt s c.args.slot None) c.self.view_is
    (none-published s c.self.inside.places.now c.self.invariant.pool c.args.slot none)
