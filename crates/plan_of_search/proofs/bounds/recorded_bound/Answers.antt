use Rattle.std.proofs.Common.{◌≡◌, Some, rules}
use Rattle.search_nodes.specs.SearchStates.{machine_state}
use Rattle.plan_of_search.proofs.LeafBounds.{read-ground, read-found}
use Rattle.plan_of_search.proofs.bounds.recorded_bound.Goals as goal

pub returns : goal.returns
returns c =
    let s = machine_state c.args.state.now in
    let there : c.plot.result ≡ Some c.in_ok-_plot._plot = search rules in
    read-found s c.requires.assembled.reachable c.args.state.now.grounds.items c.requires.assembled.has_grounds c.args.number c.requires.number
    c.index.result.now c.index.ensures c.index-2.result.now c.index-2.ensures
    c.in_ok-_plot._plot.now (read-ground _ c.plot.result c.in_ok-_plot._plot c.index.result.now c.plot.ensures there)
    c.bound.result c.bound.ensures
