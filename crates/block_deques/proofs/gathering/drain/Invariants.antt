use Rattle.std.proofs.Common.{◌≡◌, ℕ, ◌+◌, ◌-◌, true, length}
use Rattle.crossbeam_deque.specs.Handles.{worker_flavor, worker_view}
use Rattle.block_deques.specs.declared.block.Block.{Block}
use Rattle.block_deques.specs.Hands.{weigh, all_parts}
use Rattle.block_deques.specs.Gathers.{known}
use Rattle.block_deques.proofs.gathering.drain.Given as goal

-- what was taken has gone to the list
abbrev pub invariant-loop-block : goal.invariant-loop-block
invariant-loop-block l = record {
  flavor : worker_flavor l.owner ≡ 0;
  owner : (worker_view l.owner).owner ≡ true;
  parts : (worker_view l.owner).parts ≡ all_parts;
  put : (worker_view l.owner).put ≡ (worker_view l.fn.owner).put;
  sums : (h : Block → ℕ) → weigh h l.left.items + known h (worker_view l.fn.owner) ≡ weigh h l.initial.left.items + known h (worker_view l.owner);
}

abbrev pub decreases-loop-block : goal.decreases-loop-block
decreases-loop-block l = length (worker_view l.owner).put - length (worker_view l.owner).taken
