use Rattle.std.proofs.Common.{◌≡◌, ◌++◌, length, None}
use Rattle.std.specs.Vec.Iter.{into_iter_items, into_iter_len}
use Rattle.snd_network.specs.Ends.{AreAllOf, ends_of, first_unknown}
use Rattle.snd_network.proofs.resolve.find_all.Given as goal

abbrev pub invariant-loop-item : goal.invariant-loop-item
invariant-loop-item g l = record {
  found : AreAllOf (g.P.Part.is_found l.names) l.yielded l.found.items;
  known : first_unknown l.names (ends_of g.P.Part.ends l.yielded) ≡ None;
  whole : l.fn.items.items ≡ l.yielded ++ into_iter_items l.item-iterator;
  count : into_iter_len l.item-iterator ≡ length (into_iter_items l.item-iterator);
}
