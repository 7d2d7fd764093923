use Rattle.std.proofs.Common.{◌-◌, ◌≤◌}
use Rattle.block_deques.specs.Decks.{IsSameDeck}
use Rattle.search_worker.proofs.blocks.put_blocks.Given as goal

abbrev pub invariant-loop-first : goal.invariant-loop-first
invariant-loop-first l = IsSameDeck l.initial.deck l.deck × (l.first ≤ l.demands)

abbrev pub decreases-loop-first : goal.decreases-loop-first
decreases-loop-first l = l.demands - l.first
