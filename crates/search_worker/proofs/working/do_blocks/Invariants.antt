use Rattle.block_deques.specs.Decks.{IsSameDeck}
use Rattle.search_worker.proofs.working.do_blocks.Given as goal

abbrev pub invariant-loop : goal.invariant-loop
invariant-loop g l =
    (goal.iterator-loop g).can_next l.iterator' × (goal.iterator-loop g).is_finite l.iterator' × g.H.Office.of l.hub l.seat × g.H.Office.keeps l.initial.seat l.seat × IsSameDeck l.initial.deck l.deck
