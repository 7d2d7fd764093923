use Rattle.gate_pools.proofs.hubs.linear.tell_dialogue.Given as goal

abbrev pub ghosts-take_turns-N-Naming : goal.ghosts-take_turns-N-Naming
ghosts-take_turns-N-Naming g a = record { opening = a.pool }

abbrev pub ghosts-take_turns-N-Search : goal.ghosts-take_turns-N-Search
ghosts-take_turns-N-Search g a = record { problem = a.pool.problem; cuts = a.pool.cuts; budget = a.pool.budget }
