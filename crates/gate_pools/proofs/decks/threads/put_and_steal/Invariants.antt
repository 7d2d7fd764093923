use Rattle.block_deques.specs.Decks.{IsSameDeck}
use Rattle.gate_pools.proofs.decks.threads.put_and_steal.Given as goal

abbrev pub invariant-loop-number : goal.invariant-loop-number
invariant-loop-number g l = IsSameDeck l.initial.deck l.deck
