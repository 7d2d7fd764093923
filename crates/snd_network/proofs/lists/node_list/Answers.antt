use Rattle.std.proofs.lemmas.Result.{err_from_is_err_and}
use Rattle.snd_reader.proofs.Loops.{head_fails, closes, body_fails, goes_on}
use Rattle.snd_reader.proofs.Turns.{turn_shorter}
use Rattle.snd_network.specs.Grammar.{NodeForm}
use Rattle.snd_network.specs.Reading.{node_turn, node_item, node_list}
use Rattle.snd_network.proofs.Parts.{live_node}
use Rattle.snd_network.proofs.Fresh.{fresh_item}
use Rattle.snd_network.proofs.lists.node_list.Goals as goal

pub returns-in_err-item : goal.returns-in_err-item
returns-in_err-item c =
    let p = err_from_is_err_and c.from_residual.result c.from_residual.ensures.1 in
    record { gives = rw (p.1, p.2) (head_fails node_turn node_item (node_list c.args.cursor.now) c.nodes.list c.nodes.cursor _ c.nodes.invariant c.in_err-item.ensures.gives) }

pub returns-in_default : goal.returns-in_default
returns-in_default c =
    record { gives = closes node_turn node_item (node_list c.args.cursor.now) c.nodes.list c.nodes.cursor c.next_node.new.cursor c.nodes.invariant (rw c.in_default.is at c.in_ok-item.ensures.gives) }

pub nodes-smaller : goal.nodes-smaller
nodes-smaller c = turn_shorter node_turn node_item NodeForm live_node c.nodes.list c.node_item.new.list c.in-Some.item c.nodes.cursor c.next_node.new.cursor c.node_item.new.cursor (rw c.in-Some.is at c.in_ok-item.ensures.gives) c.in_ok-node_item.ensures.gives

pub nodes-preserved : goal.nodes-preserved
nodes-preserved c = goes_on node_turn node_item (node_list c.args.cursor.now)
    c.nodes.list c.node_item.new.list c.nodes.cursor c.next_node.new.cursor c.node_item.new.cursor c.in-Some.item c.nodes.invariant (rw c.in-Some.is at c.in_ok-item.ensures.gives) c.in_ok-node_item.ensures.gives (nodes-smaller c)

pub returns-in_err-node_item : goal.returns-in_err-node_item
returns-in_err-node_item c =
    let p = err_from_is_err_and c.from_residual-in_err-node_item.result c.from_residual-in_err-node_item.ensures.1 in
    record { gives = rw (p.1, p.2) (body_fails node_turn node_item (node_list c.args.cursor.now) c.nodes.list c.nodes.cursor c.next_node.new.cursor c.in-Some.item _ c.nodes.invariant (rw c.in-Some.is at c.in_ok-item.ensures.gives) c.in_err-node_item.ensures.gives) }

pub node_item-requires : goal.node_item-requires
node_item-requires c = fresh_item c.nodes.list c.nodes.cursor c.next_node.new.cursor c.in-Some.item (rw c.in-Some.is at c.in_ok-item.ensures.gives)
