use Rattle.std.proofs.Common.{◌≡◌, ◌++◌, length, map}
use Rattle.std.specs.Vec.Iter.{into_iter_items, into_iter_len}
use Rattle.block_deques.specs.Gathers.{worker_of, reaches_of}
use Rattle.block_deques.proofs.gathering.take_apart.Given as goal

-- the parts of the decks so far
abbrev pub invariant-loop-deck : goal.invariant-loop-deck
invariant-loop-deck l = record {
  seen : l.yielded ++ into_iter_items l.deck-iterator ≡ into_iter_items l.initial.deck-iterator;
  owners : l.owners.items ≡ map worker_of l.yielded;
  rows : l.rows.items ≡ map reaches_of l.yielded;
  rest : into_iter_len l.deck-iterator ≡ length (into_iter_items l.deck-iterator);
}
