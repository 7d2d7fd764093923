use Rattle.std.proofs.Common.{◌≡◌, length}
use Rattle.block_deques.specs.Hands.{all_parts}
use Rattle.block_deques.specs.Making.{AreFresh}
use Rattle.block_deques.proofs.making.new_owners.Given as goal

abbrev pub invariant-loop : goal.invariant-loop
invariant-loop l = (length l.owners.items ≡ l.counter) × AreFresh all_parts l.owners.items
