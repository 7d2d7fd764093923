use Rattle.std.proofs.lemmas.Option.{slice_get_within}
use Rattle.search_nodes.specs.SearchStates.{machine_state}
use Rattle.search_machine.proofs.Runs.{IsReachable-sound}
use Rattle.plan_of_search.proofs.lows.lowest_leaf.Goals as goal

pub loop-number-init : goal.loop-number-init
loop-number-init c =
    let s = machine_state c.args.state.now in
    let sound = IsReachable-sound s c.requires.assembled.reachable in
    slice_get_within s.nodes 0 sound.family.root sound.family.is_root
