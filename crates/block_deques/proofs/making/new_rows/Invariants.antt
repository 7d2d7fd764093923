use Rattle.std.proofs.Common.{◌≡◌, ◌-◌, length}
use Rattle.block_deques.specs.Hands.{all_parts}
use Rattle.block_deques.specs.Making.{AreFresh, AreRows}
use Rattle.block_deques.proofs.making.new_rows.Given as goal

abbrev pub invariant-loop : goal.invariant-loop
invariant-loop l = record {
  same_length : length l.owners.items ≡ length l.initial.owners.items;
  count : length l.rows.items ≡ l.counter;
  fresh : AreFresh (all_parts - l.counter) l.owners.items;
  rows : AreRows l.owners.items l.rows.items;
}
