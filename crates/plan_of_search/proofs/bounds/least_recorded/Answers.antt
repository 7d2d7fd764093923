use Rattle.std.proofs.Common.{◌<◌, length, rules, sym, subst}
use Rattle.search_nodes.specs.SearchStates.{machine_state}
use Rattle.plan_of_search.specs.LeafLows.{IsBegun}
use Rattle.plan_of_search.proofs.LowLaws.{begun-next}
use Rattle.plan_of_search.proofs.bounds.least_recorded.Goals as goal

pub loop-number-preserved : goal.loop-number-preserved
loop-number-preserved c =
    let s = machine_state c.args.state.now in
    let within : c.loop-number.number < length s.nodes = search rules in
    subst (IsBegun s) (sym c.lesser-least.ensures) (begun-next s c.loop-number.number c.loop-number.least c.recorded_bound.result within c.loop-number.invariant c.recorded_bound.ensures)
