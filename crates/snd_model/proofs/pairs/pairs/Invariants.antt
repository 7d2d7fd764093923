use Rattle.std.proofs.Common.{length}
use Rattle.snd_reader.proofs.Loops.{IsAfter}
use Rattle.snd_model.specs.Reading.{key_turn, pair, pairs}
use Rattle.snd_model.proofs.pairs.pairs.Given as goal

abbrev pub invariant-pairs : goal.invariant-pairs
invariant-pairs l = IsAfter key_turn pair (pairs l.fn.cursor) l.draft l.cursor

abbrev pub decreases-pairs : goal.decreases-pairs
decreases-pairs l = length l.cursor
