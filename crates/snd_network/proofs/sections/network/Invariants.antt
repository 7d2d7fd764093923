use Rattle.std.proofs.Common.{length}
use Rattle.snd_reader.proofs.Loops.{IsAfter}
use Rattle.snd_network.specs.Reading.{section_turn, section, network}
use Rattle.snd_network.proofs.sections.network.Given as goal

abbrev pub invariant-sections : goal.invariant-sections
invariant-sections l = IsAfter section_turn section (network l.fn.cursor) l.draft l.cursor

abbrev pub decreases-sections : goal.decreases-sections
decreases-sections l = length l.cursor
