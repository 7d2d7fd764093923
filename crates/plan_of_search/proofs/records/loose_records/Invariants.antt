use Rattle.std.proofs.Common.{◌≡◌, ◌++◌, length, map, Some}
use Rattle.std.specs.Vec.Iter.{into_iter_items, into_iter_len}
use Rattle.search_nodes.specs.Records.{record_of}
use Rattle.plan_of_search.proofs.records.loose_records.Given as goal

abbrev pub invariant-loop-node : goal.invariant-loop-node
invariant-loop-node l = record {
  seen : l.yielded ++ into_iter_items l.node-iterator ≡ into_iter_items l.initial.node-iterator;
  made : l.records.items ≡ map (λ node. Some (record_of node)) l.yielded;
  rest : into_iter_len l.node-iterator ≡ length (into_iter_items l.node-iterator);
}
