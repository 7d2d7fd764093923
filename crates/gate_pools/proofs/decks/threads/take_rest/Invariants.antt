use Rattle.block_deques.specs.Decks.{IsSameDeck}
use Rattle.gate_pools.proofs.decks.threads.take_rest.Given as goal

abbrev pub invariant-loop : goal.invariant-loop
invariant-loop g l = IsSameDeck l.initial.deck l.deck
