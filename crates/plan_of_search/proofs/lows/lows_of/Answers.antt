use Rattle.std.proofs.Common.{◌≡◌, ◌<◌, List, length, get_or, rules, subst}
use Rattle.search_machine.specs.State.{Node}
use Rattle.search_nodes.specs.SearchStates.{machine_state}
use Rattle.plan_of_search.proofs.LowLaws.{told-within, told-lows}
use Rattle.plan_of_search.proofs.lows.lows_of.Goals as goal

pub tell_children-requires : goal.tell_children-requires
tell_children-requires c =
    let s = machine_state c.args.state.now in
    let within : c.loop-number.number < length s.nodes = search rules in
    let node : Node = c.index-nodes-number.result in
    let read : node ≡ get_or s.nodes c.loop-number.number node =
    subst (λ (nodes : List Node). node ≡ get_or nodes c.loop-number.number node) c.as_slice-nodes.ensures.value c.index-nodes-number.is in
    told-within s c.loop-number.number within c.requires node read c.loop-number.lows.items c.loop-number.invariant

pub loop-number-preserved : goal.loop-number-preserved
loop-number-preserved c =
    let s = machine_state c.args.state.now in
    let within : c.loop-number.number < length s.nodes = search rules in
    let node : Node = c.index-nodes-number.result in
    let read : node ≡ get_or s.nodes c.loop-number.number node =
    subst (λ (nodes : List Node). node ≡ get_or nodes c.loop-number.number node) c.as_slice-nodes.ensures.value c.index-nodes-number.is in
    told-lows s c.loop-number.number within c.requires node read c.loop-number.lows.items c.tell_children.new.lows.items c.loop-number.invariant c.tell_children.ensures
