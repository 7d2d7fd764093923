use Rattle.std.proofs.Common.{◌≡◌, ◌++◌, length, map, Vec, Global}
use Rattle.std.specs.Vec.Iter.{into_iter_items, into_iter_len}
use Rattle.block_deques.specs.declared.block.Block.{Block}
use Rattle.block_deques.specs.declared.deck.Deck.{Deck}
use Rattle.gate_pools.proofs.decks.threads.take_back.Given as goal

abbrev pub invariant-loop-deck : goal.invariant-loop-deck
invariant-loop-deck l = record {
  seen : l.yielded ++ into_iter_items l.deck-iterator ≡ into_iter_items l.initial.deck-iterator;
  all : l.all.items ≡ map (λ (w : Deck × Vec Block Global). w.0) l.yielded;
  rest : into_iter_len l.deck-iterator ≡ length (into_iter_items l.deck-iterator);
}
