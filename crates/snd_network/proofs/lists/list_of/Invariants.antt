use Rattle.std.proofs.Common.{length}
use Rattle.snd_reader.proofs.Loops.{IsAfter}
use Rattle.snd_network.specs.Reading.{list_turn, list_item, list_of}
use Rattle.snd_network.proofs.lists.list_of.Given as goal

abbrev pub invariant-items : goal.invariant-items
invariant-items g l = IsAfter list_turn (list_item g.P.Part.reading) (list_of g.P.Part.reading l.fn.cursor) l.table l.cursor

abbrev pub decreases-items : goal.decreases-items
decreases-items g l = length l.cursor
