use Rattle.search_worker.proofs.blocks.price_block.Given as goal

abbrev pub invariant-loop-place : goal.invariant-loop-place
invariant-loop-place g l = g.H.Office.of l.hub l.seat × g.H.Office.keeps l.initial.seat l.seat
