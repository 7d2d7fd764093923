use Rattle.block_deques.specs.Decks.{IsSameDeck}
use Rattle.search_worker.proofs.blocks.next_block.Given as goal

abbrev pub invariant-loop-victim : goal.invariant-loop-victim
invariant-loop-victim g l = IsSameDeck l.initial.deck l.deck
