use Rattle.std.proofs.Common.{◌≡◌, ℕ, ◌+◌, vec_len}
use Rattle.block_deques.specs.declared.block.Block.{Block}
use Rattle.block_deques.specs.Hands.{weigh}
use Rattle.block_deques.specs.Gathers.{known_to, put_on, AreWhole}
use Rattle.block_deques.proofs.gathering.drain_all.Given as goal

-- what the emptied deques held has gone to the list
abbrev pub invariant-loop-owner : goal.invariant-loop-owner
invariant-loop-owner l = record {
  whole : AreWhole l.owners.items;
  sums : (h : Block → ℕ) → weigh h l.left.items + (known_to h l.fn.owners.items + put_on h l.owners.items) ≡ put_on h l.fn.owners.items + known_to h l.owners.items;
}

abbrev pub decreases-loop-owner : goal.decreases-loop-owner
decreases-loop-owner l = vec_len l.owners
