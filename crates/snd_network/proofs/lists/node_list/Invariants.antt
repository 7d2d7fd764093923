use Rattle.std.proofs.Common.{length}
use Rattle.snd_reader.proofs.Loops.{IsAfter}
use Rattle.snd_network.specs.Reading.{node_turn, node_item, node_list}
use Rattle.snd_network.proofs.lists.node_list.Given as goal

abbrev pub invariant-nodes : goal.invariant-nodes
invariant-nodes l = IsAfter node_turn node_item (node_list l.fn.cursor) l.list l.cursor

abbrev pub decreases-nodes : goal.decreases-nodes
decreases-nodes l = length l.cursor
