use Rattle.std.proofs.Common.{length}
use Rattle.snd_reader.proofs.Loops.{IsAfter}
use Rattle.snd_network.specs.Reading.{module_turn, module_item, modules}
use Rattle.snd_network.proofs.readers.modules.Given as goal

abbrev pub invariant-pairs : goal.invariant-pairs
invariant-pairs l = IsAfter module_turn module_item (modules l.fn.cursor) l.modules.items l.cursor

abbrev pub decreases-pairs : goal.decreases-pairs
decreases-pairs l = length l.cursor
