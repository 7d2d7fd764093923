use Rattle.std.proofs.Common.{◌+◌, ◌<◌, ◌≤◌, length, rules}
use Rattle.search_nodes.specs.SearchStates.{machine_state}
use Rattle.plan_of_search.proofs.LowLaws.{read-low, over-none, over-more, over-past}
use Rattle.plan_of_search.proofs.bounds.least_over.Goals as goal

pub loop-number-init : goal.loop-number-init
loop-number-init c = over-none (machine_state c.args.state.now) c.args.from c.args.so_far c.requires.limit

pub least_with-requires-clause-low : goal.least_with-requires-clause-low
least_with-requires-clause-low c =
    let s = machine_state c.args.state.now in
    let within : c.loop-number.number < length s.nodes = search rules in
    read-low s c.loop-number.number within c.args.lows.now _ c.requires.lows (search rules)

pub least_with-requires-clause-limit : goal.least_with-requires-clause-limit
least_with-requires-clause-limit c = c.loop-number.invariant.is_limit

pub loop-number-preserved : goal.loop-number-preserved
loop-number-preserved c =
    let s = machine_state c.args.state.now in
    over-more s c.args.from c.loop-number.number (c.loop-number.number + 1) c.args.so_far c.loop-number.least _ c.loop-number.invariant (search rules)

pub returns : goal.returns
returns c =
    let all : c.args.to ≤ c.loop-number.number = search rules in
    over-past (machine_state c.args.state.now) c.args.from c.args.to c.loop-number.number c.args.so_far c.loop-number.least all c.loop-number.invariant
