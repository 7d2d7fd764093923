use Rattle.block_deques.specs.Decks.{IsSameDeck}
use Rattle.search_worker.proofs.blocks.drop_blocks.Given as goal

abbrev pub invariant-loop : goal.invariant-loop
invariant-loop l = IsSameDeck l.initial.deck l.deck
