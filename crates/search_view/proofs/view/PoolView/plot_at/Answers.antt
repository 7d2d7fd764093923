use Rattle.std.proofs.Common.{◌<◌, length, sym, subst, rules}
use Rattle.search_nodes.specs.SearchStates.{machine_state}
use Rattle.search_machine.specs.State.{State}
use Rattle.search_machine.specs.Machine.{IsReachable}
use Rattle.search_view.specs.Examining.{IsOpenAt, IsKeptAt}
use Rattle.search_view.proofs.Examining.{open-ground-within, open-kept, open-kept-at}
use Rattle.search_view.proofs.Reading.{plot-some}
use Rattle.search_view.proofs.view.PoolView.plot_at.Goals as goal

pub index-requires : goal.index-requires
index-requires c =
    let s = machine_state c.self.inside.state.now in
    let at : IsOpenAt s c.args.node = subst (λ (x : State). IsOpenAt x c.args.node) (sym c.self.view_is) c.requires in
    let within : c.args.node.0 < length c.self.inside.state.now.grounds.items = open-ground-within s _ _ _ c.self.invariant c.args.node at in
    search rules

pub unwrap-requires : goal.unwrap-requires
unwrap-requires c =
    let s = machine_state c.self.inside.state.now in
    let at : IsOpenAt s c.args.node = subst (λ (x : State). IsOpenAt x c.args.node) (sym c.self.view_is) c.requires in
    let w = open-kept s _ _ _ c.self.invariant c.args.node at c.index.result.now c.index.ensures in
    plot-some s.problem at.node c.index.result.now w c.plot.result _ c.plot.ensures

pub returns-clause-kept : goal.returns-clause-kept
returns-clause-kept c =
    let s = machine_state c.self.inside.state.now in
    let at : IsOpenAt s c.args.node = subst (λ (x : State). IsOpenAt x c.args.node) (sym c.self.view_is) c.requires in
    subst (λ (x : State). IsKeptAt x c.args.node c.unwrap.result.now) c.self.view_is
    (open-kept-at s _ _ _ c.self.invariant c.args.node at c.index.result.now c.plot.result _ c.unwrap.result c.index.ensures c.plot.ensures c.unwrap.ensures)

pub returns-clause-reachable : goal.returns-clause-reachable
returns-clause-reachable c = subst IsReachable c.self.view_is c.self.invariant.pool.reachable
