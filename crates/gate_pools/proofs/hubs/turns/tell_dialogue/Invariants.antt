use Rattle.gate_pools.proofs.hubs.turns.tell_dialogue.Given as goal

abbrev pub ghosts-take_turns-N-Ledger : goal.ghosts-take_turns-N-Ledger
ghosts-take_turns-N-Ledger g a = record { name = a.blank.name; parts = a.blank.parts }

abbrev pub ghosts-take_turns-N-Search : goal.ghosts-take_turns-N-Search
ghosts-take_turns-N-Search g a = record { problem = a.pool.problem; cuts = a.pool.cuts; budget = a.pool.budget }
