use Rattle.std.proofs.Common.{◌≡◌, ◌<◌, List, length, IsSome, slice_get, refl, sym, ap, subst, ◌∙◌, rules}
use Rattle.std.specs.Prelude.{IfSome}
use Rattle.link_steps.specs.declared.range.LoadRange.{LoadRange}
use Rattle.search_nodes.specs.SearchStates.{machine_state}
use Rattle.search_machine.specs.State.{State, round_of, ranges_of}
use Rattle.search_view.proofs.TaskLaws.{has-round}
use Rattle.search_view.proofs.Reading.{has-within}
use Rattle.search_view.proofs.Gatherings.{briefs}
use Rattle.search_view.proofs.view.PoolView.brief.Goals as goal

pub index-requires : goal.index-requires
index-requires c =
    let s = machine_state c.self.inside.state.now in
    let within : c.args.node.0 < length c.self.inside.state.now.nodes.items = has-within s c.args.node (has-round s c.args.node (subst (λ (x : State). IsSome (round_of x c.args.node)) (sym c.self.view_is) c.requires)) in
    search rules

pub returns : goal.returns
returns c =
    let s = machine_state c.self.inside.state.now in
    let prices : c.in_ok-copy.field-0 ≡ c.round_at-round.result.now.prices = c.in_ok-copy.ensures ∙ c.prices.ensures in
    let ranges : IfSome (slice_get c.args.self.now.nodes c.args.node.0) (λ x. c.in_ok-copy-2.field-0 ≡ ranges_of c.args.self.now.problem x) =
    subst (λ (xs : List LoadRange). IfSome (slice_get c.args.self.now.nodes c.args.node.0) (λ x. xs ≡ ranges_of c.args.self.now.problem x)) (sym c.in_ok-copy-2.ensures) c.ranges_at-ranges.ensures in
    briefs s c.args.self.now c.args.node c.round_at-round.result.now c.index.result.now _ c.self.view_is c.round_at-round.ensures c.index.ensures
    refl c.version.ensures prices ranges c.in_ok-columns.ensures c.crowd_tried.ensures c.has_enough.ensures c.incumbent.ensures (ap (λ (s : State). s.unit) c.self.view_is)
