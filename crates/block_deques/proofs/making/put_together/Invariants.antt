use Rattle.std.proofs.Common.{◌≡◌, ◌++◌, length}
use Rattle.std.specs.Vec.Iter.{into_iter_items, into_iter_len}
use Rattle.block_deques.specs.Making.{AreRows, AreDecksOf}
use Rattle.block_deques.proofs.making.put_together.Given as goal

abbrev pub invariant-loop-worker : goal.invariant-loop-worker
invariant-loop-worker l = record {
  whole : l.fn.owners.items ≡ l.yielded ++ into_iter_items l.worker-iterator;
  rest : into_iter_len l.worker-iterator ≡ length (into_iter_items l.worker-iterator);
  count : length l.decks.items ≡ length l.yielded;
  left : length l.rows.items ≡ length (into_iter_items l.worker-iterator);
  rows : AreRows l.fn.owners.items l.rows.items;
  decks : AreDecksOf l.fn.owners.items l.decks.items;
}
